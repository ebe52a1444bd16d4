use Rattle.pfl_containers.proofs.Changing.{insert_leaf, insert_no_steps, insert_left, insert_equal, insert_right}
use Rattle.pfl_containers.proofs.order.changes.+inserted.Goals as goal

pub returns-in_default : goal.returns-in_default
returns-in_default g t c = record { inserts = insert_leaf _ c.in_default.ensures.node c.linked-link.ensures.joins }

pub returns-then-steps-eq0 : goal.returns-then-steps-eq0
returns-then-steps-eq0 g t c = record { inserts = insert_no_steps c.in-Some.ensures.node _ _ _ _ c.if-steps-eq0.true }

pub returns-in-Less : goal.returns-in-Less
returns-in-Less g t c = record {
  inserts = insert_left c.in-Some.ensures.node g.met.K.Ordered.total c.in-Less.ensures.order c.height-was.ensures.height
      c.inserted-below.ensures.inserts c.with_left-link.ensures.takes;
}

pub returns-in-Equal : goal.returns-in-Equal
returns-in-Equal g t c = record { inserts = insert_equal c.in-Some.ensures.node g.met.K.Ordered.total c.in-Equal.ensures.order c.put.ensures.put }

pub returns-in-Greater : goal.returns-in-Greater
returns-in-Greater g t c = record {
  inserts = insert_right c.in-Some.ensures.node g.met.K.Ordered.total c.in-Greater.ensures.order c.height-was-in-Greater.ensures.height
      c.inserted-below-in-Greater.ensures.inserts c.with_right-link.ensures.takes;
}
