use Rattle.std.proofs.Common.{sym, ◌∙◌}
use Rattle.pfl_containers.proofs.Standing.{takes_right-none, takes_right-same, takes_right-other}
use Rattle.pfl_containers.proofs.order.joins.with_right.Goals as goal

pub returns-in_default : goal.returns-in_default
returns-in_default g c = record { takes = takes_right-none c.in_default.ensures.node }

pub returns-then-height-was : goal.returns-then-height-was
returns-then-height-was g c =
    record { takes = takes_right-same c.in-Some.ensures.node c.if-right-node.true (sym c.height.ensures.height ∙ c.if-height-was.true) }

pub returns : goal.returns
returns g c = record { takes = takes_right-other c.in-Some.ensures.node c.balanced.ensures.joins }
