use Rattle.std.proofs.Common.{sym, ◌∙◌}
use Rattle.pfl_table.proofs.Viewed.{get-rows_of}
use Rattle.pfl_table.proofs.table.StateTable.row_at.Goals as goal

pub returns-in_err-slot : goal.returns-in_err-slot
returns-in_err-slot g c = record { row = rw (← c.self.view_is) (rw c.from_residual.ensures (c.in_err-slot.ensures.row ∙ sym (get-rows_of _ c.args.name))) }

pub returns : goal.returns
returns g c = record { row = rw (← c.self.view_is) (c.in_ok-slot.ensures.row ∙ sym (get-rows_of _ c.args.name)) }
