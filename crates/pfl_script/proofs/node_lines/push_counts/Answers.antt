use Rattle.std.proofs.Common.{◌++◌, ◌∙◌, ℕ, List, ap, refl, append_assoc}
use Rattle.std.proofs.lemmas.Result.{on_ok_weaker}
use Rattle.pfl_script.proofs.node_lines.push_counts.Goals as goal

pub returns : goal.returns
returns g c =
    on_ok_weaker c.push_shown.result
    (λ pushed. pushed ∙ ap (λ (printed : List ℕ). c.args.text.now.items ++ printed) (simp append_assoc refl)) c.push_shown.ensures
