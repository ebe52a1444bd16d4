use Rattle.std.proofs.Common.{◌≡◌, ◌↔◌, IsTrue, subst}
use Rattle.pfl_table.specs.declared.row.Row.{Row}
use Rattle.pfl_table.specs.inner.Ordering.{flow_of}
use Rattle.pfl_table.specs.inner.Filed.{wire_flow}
use Rattle.pfl_table.proofs.Flows.{flow-is}
use Rattle.pfl_table.proofs.stored.fn.Stored.slot_of_wire.find.Goals as goal

pub returns : goal.returns
returns g c = λ at.
    subst (λ (r : Row). IsTrue c.has_wire.result ↔ (wire_flow r ≡ flow_of c.captures.packed)) (c.at.ensures.value at)
    (flow-is c.at.result.now.state.wire c.captures.packed c.has_wire.result c.has_wire.ensures)
