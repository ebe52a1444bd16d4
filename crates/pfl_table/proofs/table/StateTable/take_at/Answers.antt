use Rattle.std.proofs.Common.{◌∙◌, ap, sym, subst}
use Rattle.std.specs.Option.{option_map}
use Rattle.pfl_table.specs.declared.row.Row.{Row}
use Rattle.pfl_table.specs.Tables.{IsTable}
use Rattle.pfl_table.specs.inner.Filed.{table_of}
use Rattle.pfl_table.proofs.Setting.{table_without}
use Rattle.pfl_table.proofs.Tables.{get-states_of}
use Rattle.pfl_table.proofs.table.StateTable.take_at.Goals as goal

pub invariant_of-self : goal.invariant_of-self
invariant_of-self g c = subst IsTable (sym c.take.ensures.taken) (table_without _ c.args.name c.self.invariant)

pub returns-in_err-row-clause-state : goal.returns-in_err-row-clause-state
returns-in_err-row-clause-state g c =
    rw (← c.self.view_is) (rw c.from_residual.ensures (ap (option_map (λ (r : Row). r.state)) c.in_err-row.ensures.former
    ∙ sym (get-states_of (table_of c.self.inside.stored) c.args.name)))

pub invariant_of-self-2 : goal.invariant_of-self-2
invariant_of-self-2 g c = subst IsTable (sym c.take.ensures.taken) (table_without _ c.args.name c.self.invariant)

pub returns-clause-state : goal.returns-clause-state
returns-clause-state g c =
    rw (← c.self.view_is) (ap (option_map (λ (r : Row). r.state)) c.in_ok-row.ensures.former ∙ sym (get-states_of (table_of c.self.inside.stored) c.args.name))
