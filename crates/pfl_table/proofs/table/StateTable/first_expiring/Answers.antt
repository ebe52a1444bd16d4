use Rattle.std.proofs.Common.{List, sym, ◌∙◌, ap}
use Rattle.std.specs.List.{slice_get}
use Rattle.pfl_base.specs.Lists.{in_order}
use Rattle.pfl_table.specs.declared.row.Row.{Row}
use Rattle.pfl_table.specs.Tables.{row_before}
use Rattle.pfl_table.proofs.Viewed.{values-rows_of}
use Rattle.pfl_table.proofs.table.StateTable.first_expiring.Goals as goal

pub returns : goal.returns
returns g c = record {
  row = rw (← c.self.view_is) (c.first_expiring.ensures.row
      ∙ ap (λ (rows : List Row). slice_get (in_order (row_before c.args.adaptive c.args.states) rows) 0)
      (sym (values-rows_of _ c.known.ensures.filed.rising)));
}
