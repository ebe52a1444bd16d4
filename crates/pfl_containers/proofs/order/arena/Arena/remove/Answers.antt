use Rattle.std.proofs.Common.{refl}
use Rattle.pfl_containers.proofs.Filling.{as_taken, loses_none, loses_some, some_lost}
use Rattle.pfl_containers.proofs.order.arena.Arena.remove.Goals as goal

pub returns-in_default : goal.returns-in_default
returns-in_default g c = record {
  loses = loses_none g.met.K.Ordered.total c.args.self.now c.args.key
      (as_taken c.in_default.is (rw c.as_mut_slice-nodes.ensures.value at c.removed-link.ensures.removes));
}

pub returns : goal.returns
returns g c = record {
  loses = loses_some g.met.K.Ordered.total c.args.self.now c.args.key c.in-Some.taken _ _
      (as_taken c.in-Some.is (rw c.as_mut_slice-nodes.ensures.value at c.removed-link.ensures.removes)) c.put.ensures.put refl refl;
}

pub overflow_sub-self : goal.overflow_sub-self
overflow_sub-self g c = some_lost g.met.K.Ordered.total c.args.self.now c.args.key c.requires.stored
    (as_taken c.in-Some.is (rw c.as_mut_slice-nodes.ensures.value at c.removed-link.ensures.removes))
