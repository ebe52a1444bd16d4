use Rattle.std.specs.List.{All}
use Rattle.pfl_table.specs.inner.Scales.{IsScaled}
use Rattle.pfl_table.proofs.scales.scale_all.Given as goal

abbrev pub invariant-loop-head : goal.invariant-loop-head
invariant-loop-head g l = All (IsScaled l.adaptive l.states) l.timeouts.items
