use Rattle.std.proofs.Common.{sym}
use Rattle.pfl_table.proofs.Setting.{table_put}
use Rattle.pfl_table.proofs.table.StateTable.put.Goals as goal

pub set-requires : goal.set-requires
set-requires g c = record { table = table_put c.args.self.now _ _ c.name-name.ensures c.known.ensures.table (sym c.in_default.ensures) }
