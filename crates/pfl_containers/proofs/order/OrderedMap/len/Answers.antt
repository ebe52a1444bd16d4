use Rattle.std.proofs.Common.{sym, ◌∙◌}
use Rattle.pfl_containers.proofs.OrderEntries.{len-map_of}
use Rattle.pfl_containers.proofs.order.OrderedMap.len.Goals as goal

pub returns-clause-map : goal.returns-clause-map
returns-clause-map g c = rw (← c.self.view_is) (c.self.invariant.long ∙ sym (len-map_of _ _ c.self.invariant.sorted))
