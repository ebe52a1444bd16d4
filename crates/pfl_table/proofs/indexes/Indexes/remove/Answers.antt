use Rattle.std.proofs.Common.{Some, ◌∙◌, ap, sym}
use Rattle.pfl_base.specs.declared.flow.Key.{Key}
use Rattle.pfl_containers.specs.Lists.{link}
use Rattle.pfl_containers.specs.inner.NameOrder.{by_name_total, by_name_exact}
use Rattle.pfl_containers.proofs.ForCallers.{lost, tagged-has, tagged-lost}
use Rattle.pfl_table.proofs.Counted.{counts-lost, counts-there}
use Rattle.pfl_table.specs.inner.Ordering.{by_name, name_tag, flow_of, flow_total, flow_exact, flow_tag}
use Rattle.pfl_table.specs.inner.Filed.{wire_flow, stack_flow}
use Rattle.pfl_table.proofs.Dues.{dues-lost}
use Rattle.pfl_table.proofs.Keyed.{named}
use Rattle.pfl_table.proofs.indexes.Indexes.remove.Goals as goal

pub remove-requires : goal.remove-requires
remove-requires g c =
    let may = c.requires.stands in
    record {
      stands = tagged-has by_name_total by_name_exact by_name name_tag may.front
          (link c.args.slot c.args.row.now) may.back _ may.are.names
          ∙ ap Some (sym (c.tag_of_name.ensures.tag ∙ ap name_tag (named c.name-name.result c.args.row.now c.name-name.ensures)));
    }

pub remove-requires-3 : goal.remove-requires-3
remove-requires-3 g c =
    let may = c.requires.stands in
    record {
      stands = tagged-has flow_total flow_exact wire_flow flow_tag may.front
          (link c.args.slot c.args.row.now) may.back _ may.are.wires
          ∙ ap Some (sym (c.tag_of_flow.ensures.tag ∙ ap (λ (k : Key). flow_tag (flow_of k)) c.wire.ensures));
    }

pub remove-requires-4 : goal.remove-requires-4
remove-requires-4 g c =
    let may = c.requires.stands in
    record {
      stands = tagged-has flow_total flow_exact stack_flow flow_tag may.front
          (link c.args.slot c.args.row.now) may.back _ may.are.stacks
          ∙ ap Some (sym (c.tag_of_flow-2.ensures.tag ∙ ap (λ (k : Key). flow_tag (flow_of k)) c.stack.ensures));
    }

pub less-requires : goal.less-requires
less-requires g c =
    let may = c.requires.stands in
    record { counted = counts-there may.front (link c.args.slot c.args.row.now) may.back _ _ c.rule.ensures may.are.rules }

pub returns : goal.returns
returns g c =
    let slot = c.args.slot in
    let row = c.args.row.now in
    record {
      loses = λ limit front back are. record {
        names = tagged-lost by_name_total by_name_exact by_name name_tag front back slot row _ _ c.remove.ensures.tags are.names;
        order = lost by_name_total by_name_exact by_name front back slot row _ _ _
            (named c.name-name.result row c.name-name.ensures) c.remove-2.ensures.map are.order;
        wires = tagged-lost flow_total flow_exact wire_flow flow_tag front back slot row _ _ c.remove-3.ensures.tags are.wires;
        stacks = tagged-lost flow_total flow_exact stack_flow flow_tag front back slot row _ _ c.remove-4.ensures.tags are.stacks;
        expiries = dues-lost limit front back slot row _ _ are.expiries c.remove-5.ensures.unfiles;
        rules = counts-lost front (link slot row) back _ _ _ c.rule.ensures c.less.ensures.counted are.rules;
        names_limit = c.remove.ensures.limit ∙ are.names_limit;
        order_limit = c.remove-2.ensures.limit ∙ are.order_limit;
        wires_limit = c.remove-3.ensures.limit ∙ are.wires_limit;
        stacks_limit = c.remove-4.ensures.limit ∙ are.stacks_limit;
      };
    }
