use Rattle.pfl_containers.proofs.Searching.{at_start, no_first, first_none, first_step}
use Rattle.pfl_containers.proofs.order.search.first.Goals as goal

pub loop-steps_left-init : goal.loop-steps_left-init
loop-steps_left-init g c = at_start _

pub returns-in_default : goal.returns-in_default
returns-in_default g c = record { first = c.loop-steps_left.invariant _ (no_first _ _ _ c.in_default.ensures.node) }

pub loop-steps_left-preserved : goal.loop-steps_left-preserved
loop-steps_left-preserved g c = first_step _ _ _ _ c.in-Some.ensures.node c.loop-steps_left.invariant

pub returns : goal.returns
returns g c = record { first = c.loop-steps_left.invariant _ (first_none _ _ _ c.loop-steps_left-test.false) }
