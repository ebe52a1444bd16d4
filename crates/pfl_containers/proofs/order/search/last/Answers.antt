use Rattle.pfl_containers.proofs.Searching.{at_start, no_last, last_none, last_step}
use Rattle.pfl_containers.proofs.order.search.last.Goals as goal

pub loop-steps_left-init : goal.loop-steps_left-init
loop-steps_left-init g c = at_start _

pub returns-in_default : goal.returns-in_default
returns-in_default g c = record { last = c.loop-steps_left.invariant _ (no_last _ _ _ c.in_default.ensures.node) }

pub loop-steps_left-preserved : goal.loop-steps_left-preserved
loop-steps_left-preserved g c = last_step _ _ _ _ c.in-Some.ensures.node c.loop-steps_left.invariant

pub returns : goal.returns
returns g c = record { last = c.loop-steps_left.invariant _ (last_none _ _ _ c.loop-steps_left-test.false) }
