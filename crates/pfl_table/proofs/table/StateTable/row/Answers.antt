use Rattle.std.proofs.Common.{sym, ◌∙◌}
use Rattle.pfl_table.proofs.Viewed.{get-rows_of}
use Rattle.pfl_table.proofs.table.StateTable.row.Goals as goal

pub returns : goal.returns
returns g c = record { row = rw (← c.self.view_is) (c.by_name.ensures.row ∙ sym (get-rows_of _ c.args.name)) }
