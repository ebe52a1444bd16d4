use Rattle.std.proofs.Common.{take}
use Rattle.std.specs.List.{flat_map, zip}
use Rattle.std.specs.Fmt.{HasWritten, IsPlainFormatter}
use Rattle.pfl_base.specs.Classes.{classes}
use Rattle.pfl_rules.specs.Parts.{timeout_text}
use Rattle.pfl_rules.proofs.parts.TimeoutsDisplay.fmt.Given as goal

abbrev pub invariant-loop-number : goal.invariant-loop-number
invariant-loop-number g l =
    IsPlainFormatter l.initial.f
    → HasWritten g.W.Write.write_str_gives l.initial.f (flat_map (λ t. timeout_text t.0 t.1) (take l.number (zip classes l.seconds-items))) l.f
