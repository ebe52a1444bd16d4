use Rattle.std.proofs.Common.{◌≡◌, take}
use Rattle.pfl_events.proofs.events.Events.to_vec.Given as goal

abbrev pub invariant-loop-index : goal.invariant-loop-index
invariant-loop-index g l = l.list.items ≡ take l.index l.self
