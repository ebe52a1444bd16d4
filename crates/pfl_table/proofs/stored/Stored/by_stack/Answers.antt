use Rattle.pfl_table.specs.inner.Ordering.{flow_of, flow_cmp}
use Rattle.pfl_table.specs.inner.Filed.{stack_flow}
use Rattle.pfl_table.proofs.Storing.{slot-found}
use Rattle.pfl_table.proofs.stored.Stored.by_stack.Goals as goal

pub at-requires : goal.at-requires
at-requires g c = record {
  stands = slot-found flow_cmp stack_flow c.args.self.now.links
      (flow_of c.args.key.now) c.slot_of_stack.result c.slot_of_stack.ensures.slot;
}

pub returns : goal.returns
returns g c = record {
  row = c.at.ensures.row
      (slot-found flow_cmp stack_flow c.args.self.now.links (flow_of c.args.key.now) c.slot_of_stack.result c.slot_of_stack.ensures.slot);
}
