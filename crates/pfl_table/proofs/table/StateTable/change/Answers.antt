use Rattle.pfl_table.proofs.Setting.{table_changed}
use Rattle.pfl_table.proofs.table.StateTable.change.Goals as goal

pub set-requires : goal.set-requires
set-requires g c = record {
  table = table_changed c.args.self.now _ _ c.in_ok-by_name.field-0.now c.name-name.ensures c.known.ensures.table
      c.in_ok-by_name.ensures.state c.requires.wire c.requires.stack;
}
