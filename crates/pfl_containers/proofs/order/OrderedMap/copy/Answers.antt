use Rattle.pfl_containers.proofs.Mapping.{stores_listed, copied_is}
use Rattle.pfl_containers.proofs.order.OrderedMap.copy.Goals as goal

pub invariant_of-result : goal.invariant_of-result
invariant_of-result g c = stores_listed (c.in_ok-arena.ensures.copies.stores _ c.self.invariant)

pub returns : goal.returns
returns g c = record { same = rw (← c.self.view_is) (copied_is c.self.invariant c.in_ok-arena.ensures.copies) }
