use Rattle.pfl_containers.proofs.Filling.{locates_none, locates_some}
use Rattle.pfl_containers.proofs.order.arena.Arena.find.Goals as goal

pub returns-in_default : goal.returns-in_default
returns-in_default g c = record {
  locates = locates_none g.met.K.Ordered.total c.args.self.now c.args.key
      (rw c.deref.ensures.value at c.in_default.ensures.finds);
}

pub returns-in_default-node_at : goal.returns-in_default-node_at
returns-in_default-node_at g c =
    record {
      locates = locates_some g.met.K.Ordered.total c.args.self.now c.args.key c.in-Some.place _
          (rw c.deref.ensures.value at c.in-Some.ensures.finds) (rw c.deref-2.ensures.value at c.in_default-node_at.ensures.node);
    }

pub returns : goal.returns
returns g c =
    record {
      locates = locates_some g.met.K.Ordered.total c.args.self.now c.args.key c.in-Some.place _
          (rw c.deref.ensures.value at c.in-Some.ensures.finds) (rw c.deref-2.ensures.value at c.in-Some-node_at.ensures.node);
    }
