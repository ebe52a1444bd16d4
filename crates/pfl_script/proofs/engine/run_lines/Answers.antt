use Rattle.std.proofs.Common.{arith, ◌∙◌, ap, refl}
use Rattle.std.proofs.lemmas.Result.{err_from_is_err_and}
use Rattle.pfl_script.proofs.Running.{Ran-none, Ran-more, Ran-whole, Ran-part, Ran-broken, run-read, until-read, until-answer, one_if-le}
use Rattle.pfl_reader.proofs.ForCallers.{Counts-begun, Counts-more, counted-line, counted-none, gave-line, gave-none}
use Rattle.pfl_script.proofs.engine.run_lines.Goals as goal

-- no line yet
pub loop-reader-init : goal.loop-reader-init
loop-reader-init g c = record {
  ran = Ran-none _ _ _ _ c.begin.ensures.left;
  few = omega (arith, c.begin.ensures.room);
  fewer = omega arith;
  lines = omega (arith, c.begin.ensures.lines, c.begin.ensures.counted);
  reads = Counts-begun c.args.reader.now c.begin.new.self c.begin.ensures.turns c.begin.ensures.reads;
  most = omega (arith, c.begin.ensures.turns);
  stays = c.begin.ensures.failed;
  writer_stays = refl;
}

-- the reader failed
pub returns-in_err-advance-clause-part : goal.returns-in_err-advance-clause-part
returns-in_err-advance-clause-part g c =
    let p = err_from_is_err_and c.from_residual.result c.from_residual.ensures.1 in
    rw p.1 (Ran-part _ _ _ _ _ _ _ _ c.loop-reader.invariant.ran)

pub returns-in_err-advance-clause-until : goal.returns-in_err-advance-clause-until
returns-in_err-advance-clause-until g c =
    let p = err_from_is_err_and c.from_residual.result c.from_residual.ensures.1 in
    rw (p.1, p.2) (until-read _ _ _ _ _ _ _ _ _ _ c.loop-reader.invariant.ran)

pub returns-in_err-advance-clause-fault : goal.returns-in_err-advance-clause-fault
returns-in_err-advance-clause-fault g c =
    let p = err_from_is_err_and c.from_residual.result c.from_residual.ensures.1 in
    rw (p.1, p.2) (run-read _ c.advance.new.self _ c.in_err-advance.ensures.fault)

pub returns-in_err-advance-clause-reads : goal.returns-in_err-advance-clause-reads
returns-in_err-advance-clause-reads g c =
    Counts-more c.args.reader.now c.loop-reader.reader c.advance.new.self c.loop-reader.invariant.reads c.advance.ensures.turns

pub returns-in_err-advance-clause-few : goal.returns-in_err-advance-clause-few
returns-in_err-advance-clause-few g c = c.advance.ensures.few c.loop-reader.invariant.most

-- the answer failed
pub returns-in_err-bad-clause-part : goal.returns-in_err-bad-clause-part
returns-in_err-bad-clause-part g c =
    let reads = gave-line _ _ _ _ _ c.in_ok-advance.ensures.line c.if-branch.true c.line.ensures in
    let p = err_from_is_err_and c.from_residual-in_err-bad.result c.from_residual-in_err-bad.ensures.1 in
    rw p.1 (Ran-broken _ _ _ _ _ _ _ _ _ _ _ _ _ _ c.loop-reader.invariant.ran reads c.in_err-bad.ensures.fault c.in_err-bad.ensures.breaks
    (λ none. ap g.W.Output.written (c.in_err-bad.ensures.untouched none)) c.in_err-bad.ensures.unchanged)

pub returns-in_err-bad-clause-until : goal.returns-in_err-bad-clause-until
returns-in_err-bad-clause-until g c =
    let reads = gave-line _ _ _ _ _ c.in_ok-advance.ensures.line c.if-branch.true c.line.ensures in
    let p = err_from_is_err_and c.from_residual-in_err-bad.result c.from_residual-in_err-bad.ensures.1 in
    rw (p.1, p.2) (until-answer _ _ _ _ _ _ _ _ _ _ _ _ _ _ c.loop-reader.invariant.ran reads c.in_err-bad.ensures.fault c.in_err-bad.ensures.breaks
    c.in_err-bad.ensures.command c.in_err-bad.ensures.memory (λ none. ap g.W.Output.written (c.in_err-bad.ensures.untouched none)) c.in_err-bad.ensures.unchanged)

pub returns-in_err-bad-clause-reads : goal.returns-in_err-bad-clause-reads
returns-in_err-bad-clause-reads g c =
    Counts-more c.args.reader.now c.loop-reader.reader c.advance.new.self c.loop-reader.invariant.reads c.advance.ensures.turns

pub returns-in_err-bad-clause-few : goal.returns-in_err-bad-clause-few
returns-in_err-bad-clause-few g c = c.advance.ensures.few c.loop-reader.invariant.most

-- one line more
pub loop-reader-preserved : goal.loop-reader-preserved
loop-reader-preserved g c =
    let reads = gave-line _ _ _ _ _ c.in_ok-advance.ensures.line c.if-branch.true c.line.ensures in
    let less = c.in_ok-advance.ensures.room c.if-branch.true in
    let lines = counted-line _ _ _ c.in_ok-advance.ensures.lines c.if-branch.true in
    let ran = Ran-more _ _ _ _ _ _ _ _ _ _ _ _ c.loop-reader.invariant.ran reads c.in_ok-bad.ensures.timeline c.in_ok-bad.ensures.text in
    record {
      ran = rw (c.more-ended.ensures.lines, c.more-ended.ensures.bad, c.in_ok-bad.ensures.bad) ran;
      few = omega (arith, less);
      fewer = omega (arith, one_if-le c.in_ok-bad.bad);
      lines = rw c.more-ended.ensures.lines (omega (arith, lines, c.loop-reader.invariant.lines));
      reads = Counts-more c.args.reader.now c.loop-reader.reader c.advance.new.self c.loop-reader.invariant.reads c.advance.ensures.turns;
      most = c.advance.ensures.few c.loop-reader.invariant.most;
      stays = c.in_ok-advance.ensures.stays ∙ c.loop-reader.invariant.stays;
      writer_stays = c.in_ok-bad.ensures.stays ∙ c.loop-reader.invariant.writer_stays;
    }

-- the end
pub returns-clause-whole : goal.returns-clause-whole
returns-clause-whole g c =
    let over = gave-none _ _ _ _ c.in_ok-advance.ensures.line c.if-branch.false in
    Ran-whole _ _ _ _ _ _ _ _ _ c.loop-reader.invariant.ran over

pub returns-clause-lines : goal.returns-clause-lines
returns-clause-lines g c =
    let lines = counted-none _ _ _ c.in_ok-advance.ensures.lines c.if-branch.false in
    lines ∙ c.loop-reader.invariant.lines

pub returns-clause-reads : goal.returns-clause-reads
returns-clause-reads g c = Counts-more c.args.reader.now c.loop-reader.reader c.advance.new.self c.loop-reader.invariant.reads c.advance.ensures.turns

pub returns-clause-few : goal.returns-clause-few
returns-clause-few g c = c.advance.ensures.few c.loop-reader.invariant.most
