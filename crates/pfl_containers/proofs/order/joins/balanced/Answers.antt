use Rattle.std.proofs.Common.{arith}
use Rattle.pfl_containers.proofs.Standing.{join_steady_left, join_steady_right, Joins-as}
use Rattle.pfl_containers.proofs.Balances.{height-is, balances_right, balances_left, balances_linked}
use Rattle.pfl_containers.proofs.order.joins.balanced.Goals as goal

pub returns-then-left-saturating_add : goal.returns-then-left-saturating_add
returns-then-left-saturating_add g c = record {
  joins = Joins-as (join_steady_left c.args.node c.leant_left.ensures.steadies c.turned_right.ensures.joins)
      (λ l r t can w. balances_right l r w.0 t w.1 w.2 (λ b d few.
      omega (
        arith,
        few,
        c.if-left-saturating_add.true,
        c.saturating_add.ensures,
        c.height-left.ensures.height,
        c.height-right.ensures.height,
        height-is _ l _ can.left b,
        height-is _ r _ can.right d,
      )));
}

pub returns-then-right-saturating_add : goal.returns-then-right-saturating_add
returns-then-right-saturating_add g c = record {
  joins = Joins-as (join_steady_right c.args.node c.leant_right.ensures.steadies c.turned_left.ensures.joins)
      (λ l r t can w. balances_left l r w.0 t w.1 w.2 (λ b d few.
      omega (
        arith,
        few,
        c.if-right-saturating_add.true,
        c.saturating_add-else-left-saturating_add.ensures,
        c.height-left.ensures.height,
        c.height-right.ensures.height,
        height-is _ l _ can.left b,
        height-is _ r _ can.right d,
      )));
}

pub returns-else-right-saturating_add : goal.returns-else-right-saturating_add
returns-else-right-saturating_add g c = record {
  joins = Joins-as c.linked.ensures.joins (λ l r t can w. balances_linked l r t w (λ b d.
      let left = height-is _ l _ can.left b in
      let right = height-is _ r _ can.right d in (
        omega (arith, left, right, c.if-left-saturating_add.false, c.saturating_add.ensures, c.height-left.ensures.height, c.height-right.ensures.height),
        omega (
          arith,
          left,
          right,
          c.if-right-saturating_add.false,
          c.saturating_add-else-left-saturating_add.ensures,
          c.height-left.ensures.height,
          c.height-right.ensures.height,
        ),
      )));
}
