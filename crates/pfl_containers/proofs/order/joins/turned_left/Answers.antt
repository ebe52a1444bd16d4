use Rattle.pfl_containers.proofs.Standing.{turn_left}
use Rattle.pfl_containers.proofs.order.joins.turned_left.Goals as goal

pub returns : goal.returns
returns g c = record { joins = turn_left c.in-Some.ensures.node c.linked-2.ensures.joins c.linked-3.ensures.joins }
