use Rattle.std.proofs.Common.{◌≡◌, ℕ, ◌-◌, ◌≤◌}
use Rattle.pfl_table.specs.Tables.{states_of}
use Rattle.pfl_table.specs.inner.Translated.{free_port, is_free, with_port}
use Rattle.pfl_table.proofs.Pooled.{first_from}
use Rattle.pfl_table.proofs.table.StateTable.free_port.Given as goal

-- the key differs from the given one by its port alone, and the ports before this one are taken
abbrev pub invariant-loop-port : goal.invariant-loop-port
invariant-loop-port g l = record {
  within : l.port ≤ l.ports.last;
  key : (port : ℕ) → with_port l.key port l.key.proto ≡ with_port l.fn.key port l.fn.key.proto;
  rest : first_from (is_free (states_of l.self) l.rule l.fn.key) l.ports.last l.port ≡ free_port (states_of l.self) l.rule l.fn.key l.ports;
}

abbrev pub decreases-loop-port : goal.decreases-loop-port
decreases-loop-port g l = l.ports.last - l.port
