use Rattle.std.proofs.Common.{subst}
use Rattle.pfl_table.specs.Tables.{IsTable}
use Rattle.pfl_table.proofs.table.StateTable.known.Goals as goal

pub returns : goal.returns
returns g c = record { table = subst IsTable c.self.view_is c.self.invariant }
