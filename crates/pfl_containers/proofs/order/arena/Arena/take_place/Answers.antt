use Rattle.pfl_containers.proofs.Filling.{takes_free, takes_new}
use Rattle.pfl_containers.proofs.order.arena.Arena.take_place.Goals as goal

pub returns-in-Some : goal.returns-in-Some
returns-in-Some g c = record {
  takes = takes_free g.met.K.Ordered.total c.args.self.now c.in-Some.first _ c.len-steps.result c.requires.room c.len-steps.ensures
      (rw c.deref_mut.ensures.value at c.in-Some.ensures.parts);
}

pub returns-in-None : goal.returns-in-None
returns-in-None g c = record {
  takes = takes_new g.met.K.Ordered.total c.args.self.now c.args.item _ c.len-steps.result c.requires.room
      c.len-steps.ensures (rw c.deref_mut.ensures.value at c.in-None.ensures.parts) c.push_reserved.new.self c.push_reserved.ensures.items
      c.push_reserved.ensures.capacity;
}
