use Rattle.std.proofs.Common.{◌∙◌, ap}
use Rattle.pfl_edits.specs.Maps.{set_at}
use Rattle.pfl_table.specs.Tables.{states_of, row_with, with_row}
use Rattle.pfl_table.proofs.Tables.{states_of-with_row}
use Rattle.pfl_table.proofs.Setting.{state_of_row_with}
use Rattle.pfl_table.proofs.table.StateTable.set.Goals as goal

pub returns-clause-states : goal.returns-clause-states
returns-clause-states g c =
    let t = c.args.self.now in
    ap states_of (c.set_row.ensures.set ∙ ap (with_row t c.args.name) c.row_with.ensures)
    ∙ (states_of-with_row t c.args.name (row_with c.args.state c.args.timeout)
    ∙ ap (set_at (states_of t) c.args.name) (state_of_row_with c.args.state c.args.timeout))
