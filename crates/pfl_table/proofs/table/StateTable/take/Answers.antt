use Rattle.std.proofs.Common.{sym, ◌∙◌, ap}
use Rattle.std.specs.Option.{option_map}
use Rattle.pfl_table.specs.declared.edit.TableEdit.{TableEdit}
use Rattle.pfl_table.specs.declared.row.Row.{Row}
use Rattle.pfl_table.proofs.Setting.{table_without, without_none, state_before}
use Rattle.pfl_table.proofs.table.StateTable.take.Goals as goal

pub set-edit-requires : goal.set-edit-requires
set-edit-requires g c = record { table = table_without c.args.self.now c.args.name c.known.ensures.table }

pub returns-in-Some-clause-state : goal.returns-in-Some-clause-state
returns-in-Some-clause-state g c = state_before c.args.self.now c.args.name _ _ c.set-edit.ensures.edit ∙ ap (option_map (λ (r : Row). r.state)) c.in-Some.is

pub returns-in-None-clause-state : goal.returns-in-None-clause-state
returns-in-None-clause-state g c = state_before c.args.self.now c.args.name _ _ c.set-edit.ensures.edit ∙ ap (option_map (λ (r : Row). r.state)) c.in-None.is

pub returns-in-None-clause-unchanged : goal.returns-in-None-clause-unchanged
returns-in-None-clause-unchanged g c =
    c.set-edit.ensures.set ∙ without_none c.args.self.now c.args.name (sym (ap (λ (e : TableEdit). e.before) c.set-edit.ensures.edit) ∙ c.in-None.is)
