use Rattle.std.proofs.Common.{arith, length-drop, ◌∙◌, ◌≡◌, ◌-◌, ℕ, List, length, take, drop, subst}
use Rattle.std.proofs.lemmas.List.{take_all}
use Rattle.std.specs.Io.KnownBytes.{Appends}
use Rattle.pfl_script.proofs.Pieces.{appends_more}
use Rattle.pfl_script.proofs.output.write_text.Goals as goal

pub loop-done-preserved : goal.loop-done-preserved
loop-done-preserved g c =
    let text = c.args.text.now in
    let done = c.loop-done.done in
    let rest : take (length text - done) (drop done text) ≡ drop done text = take_all _ _ (omega (arith, length-drop done text)) in
    let known = g.W.Output.written in
    record {
      within = omega (arith, c.in-Ok.ensures.bound, length-drop {A = ℕ});
      appends = appends_more _ _ _ text done c.in-Ok.n c.loop-done.invariant.appends
          (subst (λ (p : List ℕ). Appends (known c.loop-done.writer) (known c.write.new.self) (take c.in-Ok.n p)) rest c.in-Ok.ensures.bytes);
      stays = c.in-Ok.ensures.stays ∙ c.loop-done.invariant.stays;
    }
