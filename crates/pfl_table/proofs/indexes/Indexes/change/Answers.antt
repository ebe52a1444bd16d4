use Rattle.std.proofs.Common.{Some, ◌∷◌, ◌++◌, ◌∙◌, ap, sym, arith, length-append}
use Rattle.pfl_base.specs.declared.flow.Key.{Key}
use Rattle.pfl_containers.specs.Lists.{link}
use Rattle.pfl_containers.specs.inner.NameOrder.{by_name_total, by_name_exact}
use Rattle.pfl_containers.proofs.ForCallers.{index-kept, tagged-has, tagged-kept, tagged-len, tagged-moved}
use Rattle.pfl_table.proofs.Counted.{counts-few, counts-gained, counts-lost, counts-there}
use Rattle.pfl_table.specs.inner.Ordering.{by_name, name_tag, flow_of, flow_total, flow_exact, flow_tag}
use Rattle.pfl_table.specs.inner.Filed.{wire_flow, stack_flow}
use Rattle.pfl_table.proofs.Keyed.{named}
use Rattle.pfl_table.proofs.Storing.{by_name-found}
use Rattle.pfl_table.proofs.indexes.Indexes.change.Goals as goal

pub retag-requires : goal.retag-requires
retag-requires g c =
    let may = c.requires.changes in
    let was = link c.args.slot c.args.was.now in
    record {
      small = omega (arith, may.below, may.small);
      there = tagged-has flow_total flow_exact wire_flow flow_tag may.front was may.back _ may.are.wires
          ∙ ap Some (sym (c.tag_of_flow.ensures.tag ∙ ap (λ (k : Key). flow_tag (flow_of k)) c.wire.ensures));
      few = omega (arith, tagged-len flow_total flow_exact wire_flow flow_tag (may.front ++ was ∷ may.back) _ may.are.wires, may.few, may.are.wires_limit);
    }

pub retag-requires-2 : goal.retag-requires-2
retag-requires-2 g c =
    let may = c.requires.changes in
    let was = link c.args.slot c.args.was.now in
    record {
      small = omega (arith, may.below, may.small);
      there = tagged-has flow_total flow_exact stack_flow flow_tag may.front was may.back _ may.are.stacks
          ∙ ap Some (sym (c.tag_of_flow-3.ensures.tag ∙ ap (λ (k : Key). flow_tag (flow_of k)) c.stack.ensures));
      few = omega (arith, tagged-len flow_total flow_exact stack_flow flow_tag (may.front ++ was ∷ may.back) _ may.are.stacks, may.few, may.are.stacks_limit);
    }

pub change-requires : goal.change-requires
change-requires g c =
    let may = c.requires.changes in
    record { filed = record { limit = may.limit; front = may.front; back = may.back; are = may.are.expiries; below = may.below } }

pub less-requires : goal.less-requires
less-requires g c =
    let may = c.requires.changes in
    record { counted = counts-there may.front (link c.args.slot c.args.was.now) may.back _ _ c.rule.ensures may.are.rules }

pub more-requires : goal.more-requires
more-requires g c =
    let may = c.requires.changes in
    let was = link c.args.slot c.args.was.now in
    let others = counts-lost may.front was may.back _ _ _ c.rule.ensures c.less.ensures.counted may.are.rules in
    record {
      few = counts-few (may.front ++ may.back) _ may.limit others
          (omega (arith, length-append may.front may.back, length-append may.front (was ∷ may.back), may.few)) may.small;
    }

pub returns : goal.returns
returns g c =
    let slot = c.args.slot in
    let was = c.args.was.now in
    let row = c.args.row.now in
    record {
      changes = λ limit front back are below lacks same none. record {
        names = tagged-kept by_name_total by_name_exact by_name name_tag front back slot was row _ (named row.state.name was same) are.names;
        order = index-kept by_name_total by_name_exact by_name front slot was row back _ are.order (named row.state.name was same);
        wires = tagged-moved flow_total flow_exact wire_flow flow_tag front back slot was row _ _ _ (c.tag_of_flow-2.ensures.tag
            ∙ ap (λ (k : Key). flow_tag (flow_of k)) c.wire-2.ensures) c.retag.ensures.tagged are.wires none.wire;
        stacks = tagged-moved flow_total flow_exact stack_flow flow_tag front back slot was row _ _ _ (c.tag_of_flow-4.ensures.tag
            ∙ ap (λ (k : Key). flow_tag (flow_of k)) c.stack-2.ensures) c.retag-2.ensures.tagged are.stacks none.stack;
        expiries = c.change.ensures.moves limit front back are.expiries below lacks same (sym (by_name-found (front ++ back) row.state.name) ∙ none.name);
        rules = counts-gained front (link slot row) back _ _ _ c.rule-2.ensures c.more.ensures.counted
            (counts-lost front (link slot was) back _ _ _ c.rule.ensures c.less.ensures.counted are.rules);
        names_limit = are.names_limit;
        order_limit = are.order_limit;
        wires_limit = c.retag.ensures.limit ∙ are.wires_limit;
        stacks_limit = c.retag-2.ensures.limit ∙ are.stacks_limit;
      };
    }
