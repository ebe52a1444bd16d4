use Rattle.std.proofs.Common.{find, sym, ◌∙◌, ap}
use Rattle.std.specs.Option.{option_map}
use Rattle.std.specs.Ordering.{is_lt}
use Rattle.pfl_base.specs.Names.{name_cmp}
use Rattle.pfl_edits.specs.Maps as maps
use Rattle.pfl_track.specs.declared.state.State.{State}
use Rattle.pfl_table.specs.declared.row.Row.{Row}
use Rattle.pfl_table.proofs.Tables.{values-states_of}
use Rattle.pfl_table.proofs.Scanned.{find-map}
use Rattle.pfl_table.proofs.Viewed.{values-rows_of}
use Rattle.pfl_table.proofs.table.StateTable.after.Goals as goal

pub returns-clause-row : goal.returns-clause-row
returns-clause-row g c =
    let above = λ (r : Row). is_lt (name_cmp c.args.name r.state.name) in
    rw (← c.self.view_is) (c.after.ensures.row ∙ ap (find above) (sym (values-rows_of _ c.known.ensures.filed.rising)))

pub returns-clause-state : goal.returns-clause-state
returns-clause-state g c =
    let above = λ (s : State). is_lt (name_cmp c.args.name s.name) in
    ap (option_map (λ (r : Row). r.state)) (returns-clause-row g c)
    ∙ (sym (find-map (λ (r : Row). r.state) above (maps.values c.args.self.now.rows)) ∙ ap (find above) (sym (values-states_of c.args.self.now)))
