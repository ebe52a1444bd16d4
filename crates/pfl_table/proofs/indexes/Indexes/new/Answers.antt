use Rattle.std.proofs.Common.{ℕ, List, get_or, ap}
use Rattle.pfl_containers.specs.inner.NameOrder.{by_name_total, by_name_exact}
use Rattle.pfl_containers.proofs.ForCallers.{index-new, tagged-new}
use Rattle.pfl_table.specs.inner.Ordering.{by_name, name_tag, flow_total, flow_exact, flow_tag}
use Rattle.pfl_table.specs.inner.Filed.{wire_flow, stack_flow}
use Rattle.pfl_table.proofs.Dues.{dues-none}
use Rattle.pfl_table.proofs.indexes.Indexes.new.Goals as goal

pub returns : goal.returns
returns g c = record {
  empty = record {
    names = tagged-new by_name_total by_name_exact by_name name_tag _ c.in_ok-names.ensures.empty;
    order = index-new by_name_total by_name_exact by_name _ c.in_ok-order.ensures.empty;
    wires = tagged-new flow_total flow_exact wire_flow flow_tag _ c.in_ok-wires.ensures.empty;
    stacks = tagged-new flow_total flow_exact stack_flow flow_tag _ c.in_ok-stacks.ensures.empty;
    expiries = dues-none _ _ c.in_ok-expiries.ensures.empty c.in_ok-expiries.ensures.limit;
    rules = λ r. ap (λ (counts : List ℕ). get_or counts r 0) c.in_ok-rules.ensures.none;
    names_limit = c.in_ok-names.ensures.limit;
    order_limit = c.in_ok-order.ensures.limit;
    wires_limit = c.in_ok-wires.ensures.limit;
    stacks_limit = c.in_ok-stacks.ensures.limit;
  };
}
