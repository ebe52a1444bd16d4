use Rattle.std.proofs.Common.{arith}
use Rattle.pfl_containers.specs.inner.Balances.{LeansRight}
use Rattle.pfl_containers.proofs.Balances.{height-is, leans_right-leaf, leans_right-turned, leans_right-still}
use Rattle.pfl_containers.proofs.Standing.{joined_anew, left_empty, left_standing}
use Rattle.pfl_containers.proofs.order.joins.leant_right.Goals as goal

pub returns-in_default : goal.returns-in_default
returns-in_default g c = record { steadies = left_empty LeansRight c.in_default.ensures.node leans_right-leaf }

pub returns-then-height : goal.returns-then-height
returns-then-height g c = record {
  steadies = left_standing LeansRight c.in-Some.ensures.node (λ l r left right. leans_right-still l r _ c.in-Some.node.now (λ b d.
      omega (arith, c.if-height.true, c.height.ensures.height, c.height-2.ensures.height, height-is _ l _ left b, height-is _ r _ right d)));
}

pub returns : goal.returns
returns g c = record {
  steadies = joined_anew LeansRight c.in-Some.ensures.node c.turned_right.ensures.joins
      (λ l r u left right. leans_right-turned l r _ c.in-Some.node.now u (λ b d.
      omega (arith, c.if-height.false, c.height.ensures.height, c.height-2.ensures.height, height-is _ l _ left b, height-is _ r _ right d)));
}
