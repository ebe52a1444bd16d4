use Rattle.pfl_containers.proofs.Changing.{part_leaf, part_no_steps, part_here, part_below}
use Rattle.pfl_containers.proofs.order.changes.+without_first.Goals as goal

pub returns-in_default : goal.returns-in_default
returns-in_default g t c = record { parts = part_leaf _ c.in_default.ensures.node }

pub returns-then-steps-eq0 : goal.returns-then-steps-eq0
returns-then-steps-eq0 g t c = record { parts = part_no_steps c.in-Some.ensures.node _ c.if-steps-eq0.true }

pub returns-in_default-without_first : goal.returns-in_default-without_first
returns-in_default-without_first g t c = record { parts = part_here c.in-Some.ensures.node c.in_default-without_first.ensures.parts }

pub returns : goal.returns
returns g t c = record { parts = part_below c.in-Some.ensures.node c.height-was.ensures.height c.in-Some-without_first.ensures.parts c.with_left.ensures.takes }
