use Rattle.std.proofs.Common.{◌≡◌, ◌↔◌, IsTrue, subst}
use Rattle.pfl_table.specs.declared.row.Row.{Row}
use Rattle.pfl_table.specs.inner.Ordering.{flow_of}
use Rattle.pfl_table.specs.inner.Filed.{stack_flow}
use Rattle.pfl_table.proofs.Flows.{flow-is}
use Rattle.pfl_table.proofs.stored.fn.Stored.slot_of_stack.find.Goals as goal

pub returns : goal.returns
returns g c = λ at.
    subst (λ (r : Row). IsTrue c.has_stack.result ↔ (stack_flow r ≡ flow_of c.captures.packed)) (c.at.ensures.value at)
    (flow-is c.at.result.now.state.stack c.captures.packed c.has_stack.result c.has_stack.ensures)
