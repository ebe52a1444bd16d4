use Rattle.std.proofs.Common.{sym, ◌∙◌}
use Rattle.pfl_containers.proofs.Searching.{at_start, no_next, next_none, next_right, next_step}
use Rattle.pfl_containers.proofs.order.search.next.Goals.{then-is_lt, else-is_lt}
use Rattle.pfl_containers.proofs.order.search.next.Goals as goal

pub loop-steps_left-init : goal.loop-steps_left-init
loop-steps_left-init g c = at_start _

pub returns-in_default : goal.returns-in_default
returns-in_default g c = record { next = c.loop-steps_left.invariant _ (no_next _ _ _ c.in_default.ensures.node _ _) }

pub loop-steps_left-preserved : goal.loop-steps_left-preserved
loop-steps_left-preserved g c = elim c.if-is_lt.branch [
  | then-is_lt w ↦ rw (w.link-is, w.next-is)
      (next_step _ _ _ _ c.in-Some.ensures.node g.met.K.Ordered.total _ _ c.compare.ensures.order (sym c.is_lt.ensures
      ∙ w.if-is_lt.true) c.loop-steps_left.invariant)
  | else-is_lt w ↦ rw (w.link-is, w.next-is)
      (λ found below. c.loop-steps_left.invariant found
      (next_right _ _ _ _ c.in-Some.ensures.node g.met.K.Ordered.total _ _ c.compare.ensures.order (sym c.is_lt.ensures ∙ w.if-is_lt.false) below))
]

pub returns : goal.returns
returns g c = record { next = c.loop-steps_left.invariant _ (next_none _ _ _ c.loop-steps_left-test.false _ _) }
