use Rattle.std.proofs.Common.{◌≡◌, ◌++◌, drop}
use Rattle.pfl_script.specs.Logs.{logged_lines}
use Rattle.pfl_script.proofs.logged.push_events.Given as goal

-- with the lines of the events that are left the text is whole
abbrev pub invariant-loop-index : goal.invariant-loop-index
invariant-loop-index g l =
    l.text.items ++ logged_lines l.name l.index (drop l.index l.events) ≡ l.initial.text.items ++ logged_lines l.name 0 l.events
