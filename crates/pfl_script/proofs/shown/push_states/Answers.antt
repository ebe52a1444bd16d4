use Rattle.std.proofs.Common.{◌++◌, ◌∙◌, ap, sym}
use Rattle.std.specs.List.{flat_map}
use Rattle.std.proofs.lemmas.List.Folds.{flat_map-map}
use Rattle.std.proofs.lemmas.Result.{IfOk-weaker}
use Rattle.pfl_table.specs.declared.row.Row.{Row}
use Rattle.pfl_script.specs.Shows.{state_line}
use Rattle.pfl_script.proofs.shown.push_states.Goals as goal

pub returns : goal.returns
returns g c = IfOk-weaker c.push_list.result _ _ (λ _ pushed.
    let states = sym (flat_map-map (state_line c.args.id) (λ (r : Row). r.state) c.iter.result) ∙ ap (flat_map (state_line c.args.id)) c.iter.ensures.states in
    pushed ∙ ap (λ lines. c.args.text.now.items ++ lines) states) c.push_list.ensures
