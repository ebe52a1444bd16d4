use Rattle.std.proofs.Common.{map, sym, ◌∙◌, ap}
use Rattle.pfl_table.specs.declared.row.Row.{Row}
use Rattle.pfl_table.specs.inner.Filed.{name_of}
use Rattle.pfl_table.proofs.Tables.{keys-states_of, values-states_of}
use Rattle.pfl_table.proofs.Viewed.{keys-rows_of, values-rows_of}
use Rattle.pfl_table.proofs.table.StateTable.iter.Goals as goal

pub returns-clause-rows : goal.returns-clause-rows
returns-clause-rows g c = rw (← c.self.view_is) (c.iter.ensures.rows ∙ sym (values-rows_of _ c.known.ensures.filed.rising))

pub returns-clause-states : goal.returns-clause-states
returns-clause-states g c = ap (map (λ (r : Row). r.state)) (returns-clause-rows g c) ∙ sym (values-states_of c.args.self.now)

pub returns-clause-names : goal.returns-clause-names
returns-clause-names g c = rw (← c.self.view_is) (ap (map name_of) c.iter.ensures.rows ∙ keys-rows_of _ c.known.ensures.filed.rising)
    ∙ sym (keys-states_of c.args.self.now)
