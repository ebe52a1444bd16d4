use Rattle.pfl_containers.proofs.Mapping.{former_some, former_none}
use Rattle.pfl_containers.proofs.order.OrderedMap.get.Goals as goal

pub returns-in-Some : goal.returns-in-Some
returns-in-Some g c = record { found = rw (← c.self.view_is) (former_some g.met.K.Ordered.total _ _ c.self.invariant _ c.in-Some.ensures.locates) }

pub returns-in-None : goal.returns-in-None
returns-in-None g c = record { found = rw (← c.self.view_is) (former_none g.met.K.Ordered.total _ _ c.self.invariant _ c.in-None.ensures.locates) }
