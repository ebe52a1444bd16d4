use Rattle.std.proofs.Common.{◌++◌, ◌∙◌, ap, sym, arith}
use Rattle.pfl_base.specs.declared.flow.Key.{Key}
use Rattle.pfl_containers.specs.Lists.{link}
use Rattle.pfl_containers.specs.inner.NameOrder.{by_name_total, by_name_exact}
use Rattle.pfl_containers.proofs.ForCallers.{index-room, gained, tagged-fresh, tagged-gained, tagged-room}
use Rattle.pfl_table.proofs.Counted.{counts-few, counts-gained}
use Rattle.pfl_table.specs.inner.Ordering.{by_name, name_tag, flow_of, flow_total, flow_exact, flow_tag}
use Rattle.pfl_table.specs.inner.Filed.{wire_flow, stack_flow}
use Rattle.pfl_table.proofs.Dues.{dues-gained, dues-room}
use Rattle.pfl_table.proofs.Keyed.{named}
use Rattle.pfl_table.proofs.Storing.{by_name-found, lacks-stands}
use Rattle.pfl_table.proofs.indexes.Indexes.insert.Goals as goal

pub insert-requires : goal.insert-requires
insert-requires g c =
    let may = c.requires.new in
    record {
      small = omega (arith, may.below, may.small);
      new = tagged-fresh by_name_total by_name_exact by_name name_tag (may.front ++ may.back) _ c.args.slot may.are.names
          (lacks-stands (may.front ++ may.back) c.args.slot may.lacks);
      room = tagged-room by_name_total by_name_exact by_name name_tag may.limit _ (may.front ++ may.back) _ may.are.names may.are.names_limit may.room;
    }

pub insert-requires-2 : goal.insert-requires-2
insert-requires-2 g c = let new =
    c.requires.new in record {
      room = index-room by_name_total by_name_exact by_name new.limit _
          (new.front ++ new.back) _ new.are.order new.are.order_limit new.room;
    }

pub insert-requires-3 : goal.insert-requires-3
insert-requires-3 g c =
    let may = c.requires.new in
    record {
      small = omega (arith, may.below, may.small);
      new = tagged-fresh flow_total flow_exact wire_flow flow_tag (may.front ++ may.back) _ c.args.slot may.are.wires
          (lacks-stands (may.front ++ may.back) c.args.slot may.lacks);
      room = tagged-room flow_total flow_exact wire_flow flow_tag may.limit _ (may.front ++ may.back) _ may.are.wires may.are.wires_limit may.room;
    }

pub insert-requires-4 : goal.insert-requires-4
insert-requires-4 g c =
    let may = c.requires.new in
    record {
      small = omega (arith, may.below, may.small);
      new = tagged-fresh flow_total flow_exact stack_flow flow_tag (may.front ++ may.back) _ c.args.slot may.are.stacks
          (lacks-stands (may.front ++ may.back) c.args.slot may.lacks);
      room = tagged-room flow_total flow_exact stack_flow flow_tag may.limit _ (may.front ++ may.back) _ may.are.stacks may.are.stacks_limit may.room;
    }

pub insert-requires-5 : goal.insert-requires-5
insert-requires-5 g c = let new =
    c.requires.new in record {
      room = dues-room new.limit (new.front ++ new.back) _ new.are.expiries new.room;
      below = omega (arith, new.below, new.are.expiries.order_limit);
    }

pub more-requires : goal.more-requires
more-requires g c =
    let may = c.requires.new in
    record { few = counts-few (may.front ++ may.back) _ may.limit may.are.rules may.room may.small }

pub returns : goal.returns
returns g c =
    let slot = c.args.slot in
    let row = c.args.row.now in
    record {
      gains = λ limit front back are below lacks none. record {
        names = tagged-gained by_name_total by_name_exact by_name name_tag front back slot row _ _ _ (c.tag_of_name.ensures.tag
            ∙ ap name_tag (named c.name-name.result row c.name-name.ensures)) c.insert.ensures.tags
            (tagged-fresh by_name_total by_name_exact by_name name_tag (front ++ back) _ slot are.names
            (lacks-stands (front ++ back) slot lacks)) are.names none.name;
        order = gained by_name_total by_name_exact by_name front back slot row _ _ _
            (named c.name-name.result row c.name-name.ensures) c.insert-2.ensures.map are.order none.name;
        wires = tagged-gained flow_total flow_exact wire_flow flow_tag front back slot row _ _ _ (c.tag_of_flow.ensures.tag
            ∙ ap (λ (k : Key). flow_tag (flow_of k)) c.wire.ensures) c.insert-3.ensures.tags
            (tagged-fresh flow_total flow_exact wire_flow flow_tag (front ++ back) _ slot are.wires
            (lacks-stands (front ++ back) slot lacks)) are.wires none.wire;
        stacks = tagged-gained flow_total flow_exact stack_flow flow_tag front back slot row _ _ _ (c.tag_of_flow-2.ensures.tag
            ∙ ap (λ (k : Key). flow_tag (flow_of k)) c.stack.ensures) c.insert-4.ensures.tags
            (tagged-fresh flow_total flow_exact stack_flow flow_tag (front ++ back) _ slot are.stacks
            (lacks-stands (front ++ back) slot lacks)) are.stacks none.stack;
        expiries = dues-gained limit front back slot row _ _ are.expiries lacks (sym (by_name-found (front ++ back) row.state.name)
            ∙ none.name) c.insert-5.ensures.files;
        rules = counts-gained front (link slot row) back _ _ _ c.rule.ensures c.more.ensures.counted are.rules;
        names_limit = c.insert.ensures.limit ∙ are.names_limit;
        order_limit = c.insert-2.ensures.limit ∙ are.order_limit;
        wires_limit = c.insert-3.ensures.limit ∙ are.wires_limit;
        stacks_limit = c.insert-4.ensures.limit ∙ are.stacks_limit;
      };
    }
