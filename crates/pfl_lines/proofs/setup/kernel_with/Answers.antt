use Rattle.std.proofs.Common.{◌∙◌, sym, ap}
use Rattle.std.proofs.lemmas.Result.{err_from_is_err_and}
use Rattle.pfl_lines.specs.Words.{words}
use Rattle.pfl_lines.specs.Setup.{kernel_with}
use Rattle.pfl_lines.proofs.KernelWords.{kernel-goes, kernel-shorter, kernel-stops}
use Rattle.pfl_lines.proofs.setup.kernel_with.Goals as goal

pub returns-in_err-kernel_rules_of : goal.returns-in_err-kernel_rules_of
returns-in_err-kernel_rules_of c =
    let p = err_from_is_err_and c.from_residual.result c.from_residual.ensures.1 in
    rw (p.1, p.2) (sym (c.loop-word.invariant.same
    ∙ kernel-stops c.loop-word.kernel (words c.loop-word.rest.now) _ _ _ c.in-Ok.ensures (sym c.kernel_rules_of.ensures ∙ c.in_err-kernel_rules_of.was)))

pub loop-word-preserved : goal.loop-word-preserved
loop-word-preserved c = record {
  same = c.loop-word.invariant.same
      ∙ kernel-goes c.loop-word.kernel _ (words c.loop-word.rest.now) _ _ c.in-Ok.ensures (sym c.kernel_rules_of.ensures ∙ c.in_ok-kernel_rules_of.was)
      ∙ ap (λ k. kernel_with k (words c.in-Ok.others.now)) (sym c.union-kernel.ensures);
}

pub loop-word-smaller : goal.loop-word-smaller
loop-word-smaller c = kernel-shorter (words c.loop-word.rest.now) _ _ c.in-Ok.ensures
