use Rattle.pfl_containers.proofs.Changing.{remove_nothing, remove_no_steps, remove_left, remove_here, remove_right}
use Rattle.pfl_containers.proofs.order.changes.+removed.Goals as goal

pub returns-in_default : goal.returns-in_default
returns-in_default g t c = record { removes = remove_nothing _ _ _ c.in_default.ensures.node }

pub returns-then-steps-eq0 : goal.returns-then-steps-eq0
returns-then-steps-eq0 g t c = record { removes = remove_no_steps c.in-Some.ensures.node _ _ _ c.if-steps-eq0.true }

pub returns-in-Less : goal.returns-in-Less
returns-in-Less g t c = record {
  removes = remove_left c.in-Some.ensures.node g.met.K.Ordered.total _ c.in-Less.ensures.order c.height-was.ensures.height
      c.removed-below.ensures.removes c.with_left-link.ensures.takes;
}

pub returns-in-Equal : goal.returns-in-Equal
returns-in-Equal g t c = record { removes = remove_here c.in-Some.ensures.node g.met.K.Ordered.total _ c.in-Equal.ensures.order c.merged-link.ensures.merges }

pub returns-in-Greater : goal.returns-in-Greater
returns-in-Greater g t c = record {
  removes = remove_right c.in-Some.ensures.node g.met.K.Ordered.total _ c.in-Greater.ensures.order
      c.height-was-in-Greater.ensures.height c.removed-below-in-Greater.ensures.removes c.with_right-link.ensures.takes;
}
