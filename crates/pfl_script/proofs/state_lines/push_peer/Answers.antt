use Rattle.std.proofs.Common.{◌++◌, ◌∙◌, ℕ, List, ap, refl, append_assoc}
use Rattle.std.proofs.lemmas.Result.{on_ok_weaker}
use Rattle.pfl_script.specs.Shows.{peer_text}
use Rattle.pfl_script.proofs.state_lines.push_peer.Goals as goal

pub returns : goal.returns
unfolding peer_text
returns g c =
    on_ok_weaker c.push_shown.result (λ pushed.
    pushed ∙ ap (λ (printed : List ℕ). c.args.text.now.items ++ printed) (rw (c.of_u8-scale.ensures, c.fields-level.ensures.fields) (simp append_assoc refl)))
    c.push_shown.ensures
