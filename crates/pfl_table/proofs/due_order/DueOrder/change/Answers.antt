use Rattle.std.proofs.Common.{◌≤◌, get_or, sym, arith}
use Rattle.pfl_containers.specs.Lists.{link}
use Rattle.pfl_table.proofs.Dues.{dues-kept}
use Rattle.pfl_table.proofs.First.{used-at}
use Rattle.pfl_table.proofs.Settling.{not_used}
use Rattle.pfl_table.proofs.due_order.DueOrder.change.Goals as goal
use Rattle.pfl_table.proofs.due_order.DueOrder.change.Goals.{then-earlier, else-earlier}

pub returns-else-last-filed_at : goal.returns-else-last-filed_at
returns-else-last-filed_at g c = record {
  moves = λ limit front back are below lacks same none.
      let filed : get_or c.args.self.now.filed c.args.slot 0 ≤ c.args.row.now.state.last = elim c.if-earlier.branch [
        | then-earlier w ↦ omega (arith, not_used _ _ _ w.value-is c.if-last-filed_at.false, w.last-then-earlier.ensures, w.filed_at.ensures.time)
        | else-earlier w ↦ omega (
          arith,
          used-at c.args.self.now.filed front
              (link c.args.slot c.args.was.now) back are.used,
          w.if-earlier.false,
          c.last.ensures,
          c.last-2.ensures,
        )
      ] in
      dues-kept limit front back c.args.slot c.args.was.now c.args.row.now _ are same (sym c.if-was-row.false) filed;
}
