use Rattle.std.proofs.Common.{refl, arith}
use Rattle.std.proofs.Output.{has_written_append, has_written_of_eq}
use Rattle.std.proofs.lemmas.Bool.Decides.{nat_tests}
use Rattle.pfl_rules.proofs.Lines.{class_more, class_none, class_end}
use Rattle.pfl_rules.proofs.parts.TimeoutsDisplay.fmt.Goals as goal
use Rattle.pfl_rules.proofs.parts.TimeoutsDisplay.fmt.Goals.{in-Some+in_ok-write, in_default}

pub loop-number-preserved : goal.loop-number-preserved
loop-number-preserved g c plain =
    let so_far = c.loop-number.invariant plain in
    elim c.match-get.branch [
      | in-Some+in_ok-write w ↦
          rw w.f-is
          (has_written_of_eq _ _ _ _ _
          (class_more c.args.self.now.0.now c.loop-number.number _
          (grind (arith, nat_tests, w.in-Some.ensures.lookup.0)) c.loop-number-test.true w.in-Some.ensures.lookup.1)
          (has_written_append _ _ _ _ _ _ so_far (w.in_ok-write.ensures.writes so_far.plain refl)))
      | in_default w ↦
          rw w.f-is
          (has_written_of_eq _ _ _ _ _
          (class_none c.args.self.now.0.now c.loop-number.number (grind (arith, nat_tests, w.in_default.ensures.lookup.0)))
          so_far)
    ]

pub returns-clause-writes : goal.returns-clause-writes
returns-clause-writes g c plain done =
    has_written_of_eq _ _ _ _ _ (class_end c.args.self.now.0.now c.loop-number.number c.loop-number-test.false) (c.loop-number.invariant plain)
