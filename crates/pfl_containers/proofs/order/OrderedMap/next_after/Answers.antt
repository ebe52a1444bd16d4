use Rattle.pfl_containers.proofs.Mapping.{next_after_key, next_of_all}
use Rattle.pfl_containers.proofs.order.OrderedMap.next_after.Goals as goal

pub returns-in-Some : goal.returns-in-Some
returns-in-Some g c = record {
  next = rw c.in-Some.is
      (next_after_key g.met.K.Ordered.total _ c.known.ensures.entries.sorted c.in-Some.key _ c.after.ensures.next);
}

pub returns-in-None : goal.returns-in-None
returns-in-None g c = record { next = rw c.in-None.is (next_of_all g.met.K.Ordered.total _ c.known.ensures.entries.sorted _ c.first.ensures.first) }
