use Rattle.std.proofs.Common.{sym, ◌∙◌, ap}
use Rattle.std.specs.Option.{option_map}
use Rattle.pfl_table.specs.declared.row.Row.{Row}
use Rattle.pfl_table.proofs.Tables.{get-states_of}
use Rattle.pfl_table.proofs.table.StateTable.by_name.Goals as goal

pub returns : goal.returns
returns g c = record {
  state = c.state_of.ensures
      ∙ (ap (option_map (λ (r : Row). r.state)) c.row.ensures.row ∙ sym (get-states_of c.args.self.now c.args.name));
}
