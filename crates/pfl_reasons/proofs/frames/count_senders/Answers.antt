use Rattle.std.proofs.Common.{◌+◌, ℕ, ◌∙◌, ap, sym, arith}
use Rattle.pfl_reasons.proofs.Counting.{counted-none, counted-one}
use Rattle.pfl_reasons.proofs.frames.count_senders.Goals as goal
use Rattle.pfl_reasons.proofs.frames.count_senders.Goals.{then-sends, else-sends}

pub overflow_add-sent : goal.overflow_add-sent
overflow_add-sent g c = omega (arith, c.loop-index.invariant.few, c.loop-index-test.true, c.ranges.count.fits)

pub loop-index-preserved : goal.loop-index-preserved
loop-index-preserved g c =
    let so = c.loop-index.invariant in
    let es = c.args.events.now in
    elim c.if-sends.branch [
      | then-sends w ↦ record {
        counted = w.sent-is ∙ ap (λ (n : ℕ). n + 1) so.counted
            ∙ sym (counted-one es c.loop-index.index c.get.result c.get.ensures.event (sym c.sends.ensures ∙ w.if-sends.true));
        few = omega (arith, w.sent-is, so.few);
      }
      | else-sends w ↦ record {
        counted = w.sent-is ∙ so.counted ∙ sym (counted-none es c.loop-index.index c.get.result c.get.ensures.event (sym c.sends.ensures ∙ w.if-sends.false));
        few = omega (arith, w.sent-is, so.few);
      }
    ]
