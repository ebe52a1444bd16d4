use Rattle.std.proofs.Common.{◌≡◌, ◌++◌, ◌∙◌, ℕ, ap, sym, subst}
use Rattle.std.specs.List.{flat_map}
use Rattle.std.proofs.lemmas.List.Folds.{flat_map-map}
use Rattle.std.proofs.lemmas.Result.{IfOk-weaker}
use Rattle.pfl_link.specs.Framed.{entry_of}
use Rattle.pfl_script.specs.Shows.{link_line, frame_line, link_lines}
use Rattle.pfl_script.proofs.Lists.{pushed_two}
use Rattle.pfl_script.proofs.shown.push_link.Goals as goal

pub returns : goal.returns
unfolding link_lines
returns g c = IfOk-weaker c.push_frames.result _ _ (λ _ pushed.
    let first = subst (λ (n : ℕ). c.push_shown.new.text.items ≡ c.args.text.now.items
    ++ link_line n c.args.boot) c.next-next.ensures.next c.in_ok-push_shown.ensures in
    let frames = sym (flat_map-map frame_line entry_of c.frames.result) ∙ ap (flat_map frame_line) c.frames.ensures.frames in
    pushed_two _ _ _ _ _ first (pushed ∙ ap (λ lines. c.push_shown.new.text.items ++ lines) frames)) c.push_frames.ensures
