use Rattle.std.proofs.Common.{ap}
use Rattle.pfl_containers.specs.Lists.{link}
use Rattle.pfl_containers.specs.inner.NameOrder.{by_name_total, by_name_exact}
use Rattle.pfl_containers.proofs.ForCallers.{index-kept, tagged-kept}
use Rattle.pfl_table.specs.inner.Ordering.{by_name, name_tag, flow_of, flow_total, flow_exact, flow_tag}
use Rattle.pfl_table.specs.inner.Filed.{wire_flow, stack_flow}
use Rattle.pfl_table.proofs.Counted.{counts-kept}
use Rattle.pfl_table.proofs.Keyed.{named}
use Rattle.pfl_table.proofs.indexes.Indexes.refile.Goals as goal

pub change-requires : goal.change-requires
change-requires g c =
    let may = c.requires.changes in
    record { filed = record { limit = may.limit; front = may.front; back = may.back; are = may.are.expiries; below = may.below } }

pub returns : goal.returns
returns g c =
    let slot = c.args.slot in
    let was = c.args.was.now in
    let row = c.args.row.now in
    record {
      refiled = λ limit front back are below lacks same none. record {
        names = tagged-kept by_name_total by_name_exact by_name name_tag front back slot was row _ (named row.state.name was same.name) are.names;
        order = index-kept by_name_total by_name_exact by_name front slot was row back _ are.order (named row.state.name was same.name);
        wires = tagged-kept flow_total flow_exact wire_flow flow_tag front back slot was row _ (ap flow_of same.wire) are.wires;
        stacks = tagged-kept flow_total flow_exact stack_flow flow_tag front back slot was row _ (ap flow_of same.stack) are.stacks;
        expiries = c.change.ensures.moves limit front back are.expiries below lacks same.name none;
        rules = counts-kept front (link slot was) (link slot row) back _ same.rule are.rules;
        names_limit = are.names_limit;
        order_limit = are.order_limit;
        wires_limit = are.wires_limit;
        stacks_limit = are.stacks_limit;
      };
    }
