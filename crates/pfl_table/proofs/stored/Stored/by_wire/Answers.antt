use Rattle.pfl_table.specs.inner.Ordering.{flow_of, flow_cmp}
use Rattle.pfl_table.specs.inner.Filed.{wire_flow}
use Rattle.pfl_table.proofs.Storing.{slot-found}
use Rattle.pfl_table.proofs.stored.Stored.by_wire.Goals as goal

pub at-requires : goal.at-requires
at-requires g c = record {
  stands = slot-found flow_cmp wire_flow c.args.self.now.links
      (flow_of c.args.key.now) c.slot_of_wire.result c.slot_of_wire.ensures.slot;
}

pub returns : goal.returns
returns g c = record {
  row = c.at.ensures.row
      (slot-found flow_cmp wire_flow c.args.self.now.links (flow_of c.args.key.now) c.slot_of_wire.result c.slot_of_wire.ensures.slot);
}
