use Rattle.std.specs.Option.{option_map}
use Rattle.std.specs.Prelude.{◌≡◌, drop, map}
use Rattle.pfl_table.specs.inner.Heads.{entry_of}
use Rattle.pfl_table.proofs.DueFirst.{IsTimed, entry_due}
use Rattle.pfl_table.proofs.Earliest.{entry_before}
use Rattle.pfl_table.proofs.Foremost.{foremost, joined}
use Rattle.pfl_table.proofs.heads.first_due.Given as goal

-- the first of those that were looked at is due when its timeout, scaled, has passed, and it and the first of those that are left give the first of all
abbrev pub invariant-loop-place : goal.invariant-loop-place
invariant-loop-place l =
    IsTimed l.adaptive l.states l.first
    × (joined (entry_before l.adaptive l.states) (option_map entry_due l.first)
    (foremost (entry_before l.adaptive l.states) (map entry_of (drop l.place l.heads))) ≡ foremost (entry_before l.adaptive l.states)
    (map entry_of l.heads))
