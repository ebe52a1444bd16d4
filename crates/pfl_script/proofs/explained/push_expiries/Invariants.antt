use Rattle.std.proofs.Common.{◌≡◌, ◌++◌, take}
use Rattle.std.specs.List.{flat_map}
use Rattle.pfl_script.specs.Reasons.{expiry_line}
use Rattle.pfl_script.proofs.explained.push_expiries.Given as goal

-- the lines of the states so far stand after the text
abbrev pub invariant-loop-state : goal.invariant-loop-state
invariant-loop-state g l = l.text.items ≡ l.initial.text.items ++ flat_map expiry_line (take l.state-index l.states)
