use Rattle.std.proofs.Common.{arith}
use Rattle.pfl_containers.specs.inner.Balances.{Links}
use Rattle.pfl_containers.proofs.Balances.{links_linked}
use Rattle.pfl_containers.proofs.Standing.{linked_joins}
use Rattle.pfl_containers.proofs.order.joins.linked.Goals as goal

pub returns : goal.returns
returns g c =
    record {
      joins = linked_joins _ _ _ c.args.node _ Links c.put.ensures.put
          (λ l r can. links_linked c.args.nodes.now l r c.args.place c.args.node c.height-left.result c.height-right.result _ can.left
          can.right c.height-left.ensures.height c.height-right.ensures.height
          (omega (arith, c.max.ensures, c.saturating_add.ensures)));
    }
