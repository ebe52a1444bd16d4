use Rattle.std.proofs.Common.{◌+◌, ◌∙◌, sym, arith}
use Rattle.pfl_reasons.proofs.Counting.{place-here, place-later, place-none, place-quiet}
use Rattle.pfl_reasons.proofs.frames.place_of.Goals as goal
use Rattle.pfl_reasons.proofs.frames.place_of.Goals.{then-sends+else-left-eq0, else-sends}

pub returns-then-left-eq0-clause-place : goal.returns-then-left-eq0-clause-place
returns-then-left-eq0-clause-place g c =
    sym (c.loop-index.invariant
    ∙ place-here (c.loop-index.index + 1) c.loop-index.left c.loop-index.index c.args.events.now c.get.result c.get.ensures.event
    (sym c.sends.ensures ∙ c.if-sends.true) c.if-left-eq0.true)

pub loop-index-preserved : goal.loop-index-preserved
loop-index-preserved g c = elim c.if-sends.branch [
  | then-sends+else-left-eq0 w ↦
      c.loop-index.invariant
      ∙ place-later (c.loop-index.index + 1) c.loop-index.left c.loop-index.index c.if-sends.left c.args.events.now c.get.result
      c.get.ensures.event (sym c.sends.ensures ∙ w.if-sends.true) w.if-left-eq0.false w.left-is
  | else-sends w ↦
      c.loop-index.invariant
      ∙ place-quiet (c.loop-index.index + 1) c.loop-index.left c.loop-index.index c.if-sends.left c.args.events.now c.get.result
      c.get.ensures.event (sym c.sends.ensures ∙ w.if-sends.false) w.left-is
]

pub returns-clause-place : goal.returns-clause-place
returns-clause-place g c = sym (c.loop-index.invariant
    ∙ place-none (c.loop-index.index + 1) c.loop-index.left c.loop-index.index c.args.events.now
    (omega (arith, c.loop-index-test.false, c.len-index-end.ensures.length)))
