use Rattle.std.proofs.Common.{◌∙◌, ◌+◌, ◌-◌, refl, arith}
use Rattle.std.proofs.lemmas.Result.{IfOk-weaker, IfErr-weaker}
use Rattle.pfl_publish.proofs.Lists.{begun_all, begun_since}
use Rattle.pfl_publish.proofs.Tries.{loads-none, loads-since, no_try, one_more, last_read, last_overtaken}
use Rattle.pfl_publish.proofs.publisher.Publisher.read.Goals as goal

pub loop-tried-init : goal.loop-tried-init
loop-tried-init g c = record {
  seen = (refl, begun_all c.args.viewer.now.seen, loads-none c.args.viewer.now);
  tries = omega arith;
  within = omega arith;
  loads = no_try c.args.viewer.now.loads;
}

pub loop-tried-preserved : goal.loop-tried-preserved
loop-tried-preserved g c =
    let is = c.loop-tried.invariant in let tries = is.tries in let more = c.loop-tried-test.true in let low = c.loop-tried.auto._tried in
    let after = c.in_default.ensures.seen in let overtaken = c.in_default.ensures.err in let moved = overtaken.0.moved in let fresh =
    overtaken.0.fresh in let reached = overtaken.0.reached in
    record {
      seen = (
        after.0 ∙ is.seen.0,
        begun_since c.attempt.new.viewer.seen c.loop-tried.viewer.seen c.args.viewer.now.seen after.1 is.seen.1,
        loads-since c.args.viewer.now c.loop-tried.viewer c.attempt.new.viewer is.seen.2 after.2,
      );
      tries = omega (arith, moved, fresh, reached, tries);
      within = omega arith;
      loads = one_more (c.loop-tried._tried - 1)
          (c.loop-tried._tried + 1 - 1) c.in_default.field-0.at c.in_default.field-0.now c.args.viewer.now.loads c.loop-tried.viewer.loads
          c.attempt.new.viewer.loads (omega arith) is.loads overtaken.1.0 moved;
    }

pub returns-in-Ok-clause-ok : goal.returns-in-Ok-clause-ok
returns-in-Ok-clause-ok g c =
    let is = c.loop-tried.invariant in let tries = is.tries in
    last_read c.args.viewer.now c.loop-tried.viewer c.attempt.new.viewer c.in-Ok.revision.words (c.loop-tried._tried - 1)
    (c.args.tries - 1) (omega arith) is.loads is.within c.in-Ok.ensures.ok

pub returns-clause-ok : goal.returns-clause-ok
returns-clause-ok g c =
    let is = c.loop-tried.invariant in let tries = is.tries in
    IfOk-weaker c.attempt-2.result _ _
    (λ r e. last_read c.args.viewer.now c.loop-tried.viewer c.attempt-2.new.viewer r.words (c.loop-tried._tried - 1) (c.args.tries - 1)
    (omega arith) is.loads is.within e) c.attempt-2.ensures.ok

pub returns-clause-err : goal.returns-clause-err
returns-clause-err g c =
    let is = c.loop-tried.invariant in let tries = is.tries in let within = is.within in let end = c.loop-tried-test.false in
    IfErr-weaker c.attempt-2.result _ _
    (λ o e. last_overtaken c.args.viewer.now c.loop-tried.viewer c.attempt-2.new.viewer (c.loop-tried._tried - 1)
    (c.args.tries - 1) o.at o.now (omega arith) is.loads (omega arith) e) c.attempt-2.ensures.err
