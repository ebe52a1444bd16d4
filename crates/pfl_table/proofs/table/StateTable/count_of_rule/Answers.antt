use Rattle.std.proofs.Common.{◌==◌, false, sym, ◌∙◌, ap}
use Rattle.std.specs.List.{count_by}
use Rattle.std.specs.Option.{option_map_or}
use Rattle.pfl_edits.specs.Maps as maps
use Rattle.pfl_track.specs.declared.state.State.{State}
use Rattle.pfl_table.specs.declared.row.Row.{Row}
use Rattle.pfl_table.specs.inner.Counts.{has_rule}
use Rattle.pfl_table.specs.inner.Filed.{table_of}
use Rattle.pfl_table.proofs.Tables.{values-states_of}
use Rattle.pfl_table.proofs.Scanned.{count_by-map}
use Rattle.pfl_table.proofs.Viewed.{values-rows_of}
use Rattle.pfl_table.proofs.table.StateTable.count_of_rule.Goals as goal

pub returns : goal.returns
returns g c =
    let test = λ (s : State). option_map_or (λ n. n == c.args.rule) s.rule false in
    let t = table_of c.self.inside.stored in
    record {
      count = rw (← c.self.view_is) (c.count_of_rule.ensures.count ∙ (ap (count_by (has_rule c.args.rule)) (sym (values-rows_of _ c.known.ensures.filed.rising))
          ∙ (sym (count_by-map (λ (r : Row). r.state) test (maps.values t.rows)) ∙ ap (count_by test) (sym (values-states_of t)))));
    }
