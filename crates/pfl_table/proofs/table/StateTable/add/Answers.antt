use Rattle.std.proofs.Common.{◌≡◌, None, Some, refl, ◌∙◌, sym, subst}
use Rattle.pfl_edits.specs.Maps as maps
use Rattle.pfl_table.specs.declared.row.Row.{Row}
use Rattle.pfl_table.specs.Tables.{Table, IsTable, with_row}
use Rattle.pfl_table.proofs.Setting.{is_none, known_row, may_put, table_put}
use Rattle.pfl_table.proofs.table.StateTable.add.Goals as goal

pub add-requires-clause-new : goal.add-requires-clause-new
add-requires-clause-new g c =
    let t = c.args.self.now in
    let name = c.args.state.now.name in
    subst (λ (u : Table). maps.get u.rows name ≡ None) (sym c.self.view_is)
    (is_none (maps.get t.rows name) (known_row t name ∙ (may_put t c.args.state.now c.requires.may).name))

pub add-requires-clause-table : goal.add-requires-clause-table
add-requires-clause-table g c =
    let row : Row = record { state = c.args.state.now; timeout = c.args.timeout } in
    subst (λ (t : Table). IsTable (with_row t c.args.state.now.name (Some row))) (sym c.self.view_is)
    (table_put c.args.self.now c.args.state.now.name row refl c.known.ensures.table c.requires.may)

pub invariant_of-self : goal.invariant_of-self
invariant_of-self g c =
    let row : Row = record { state = c.args.state.now; timeout = c.args.timeout } in
    subst IsTable (sym c.add.ensures.set)
    (subst (λ (t : Table). IsTable (with_row t c.args.state.now.name (Some row))) (sym c.self.view_is)
    (table_put c.args.self.now c.args.state.now.name row refl c.known.ensures.table c.requires.may))
