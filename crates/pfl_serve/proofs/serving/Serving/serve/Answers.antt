use Rattle.std.proofs.Common.{◌≡◌, arith, ◌∙◌, refl}
use Rattle.std.proofs.lemmas.Result.{err_from_is_err_and}
use Rattle.pfl_script.proofs.ForCallers.reader.{Counts-begun, Counts-more, counted-line, counted-none, gave-line, gave-none}
use Rattle.pfl_script.proofs.ForCallers.{one_if-le}
use Rattle.pfl_session.proofs.ForCallers.{goes-on}
use Rattle.pfl_serve.proofs.Passed.{goes-none}
use Rattle.pfl_serve.proofs.ServedLines.{ended-heard, Served-none, Served-more, Served-whole, until-read, until-answer}
use Rattle.pfl_serve.proofs.serving.Serving.serve.Goals as goal

-- no line yet
pub loop-said-init : goal.loop-said-init
loop-said-init g c = record {
  served = Served-none _ _ _ _ _ _ c.begin.ensures.left;
  lab = c.requires.lab;
  goes_on = goes-none _;
  few = omega (arith, c.begin.ensures.room);
  fewer = omega arith;
  lines = omega (arith, c.begin.ensures.lines, c.begin.ensures.counted);
  reads = Counts-begun c.args.seat.now.reader c.begin.new.self c.begin.ensures.turns c.begin.ensures.reads;
  most = omega (arith, c.begin.ensures.turns);
  stays = c.begin.ensures.failed;
  writer_stays = refl;
}

-- the reader failed
pub returns-in_err-advance-clause-until : goal.returns-in_err-advance-clause-until
returns-in_err-advance-clause-until g c =
    let p = err_from_is_err_and c.from_residual.result c.from_residual.ensures.1 in
    rw (p.1, p.2) (until-read _ _ _ _ _ _ _ _ _ _ c.loop-said.invariant.served _ _)

pub returns-in_err-advance-clause-reads : goal.returns-in_err-advance-clause-reads
returns-in_err-advance-clause-reads g c =
    Counts-more c.args.seat.now.reader c.loop-said.seat.reader c.advance.new.self c.loop-said.invariant.reads c.advance.ensures.turns

pub returns-in_err-advance-clause-few : goal.returns-in_err-advance-clause-few
returns-in_err-advance-clause-few g c = c.advance.ensures.few c.loop-said.invariant.most

-- the answer failed
pub returns-in_err-answer-clause-goes_on : goal.returns-in_err-answer-clause-goes_on
returns-in_err-answer-clause-goes_on g c = goes-on _ _ _ c.loop-said.invariant.goes_on c.answer.ensures.goes_on

pub returns-in_err-answer-clause-until : goal.returns-in_err-answer-clause-until
returns-in_err-answer-clause-until g c =
    let reads = gave-line _ _ _ _ _ c.in_ok-advance.ensures.line c.if-branch.true c.line.ensures in
    let p = err_from_is_err_and c.from_residual-in_err-answer.result c.from_residual-in_err-answer.ensures.1 in
    let breaks = rw c.said_by-said.ensures at c.in_err-answer.ensures.breaks in
    rw (p.1, p.2, c.answer.ensures.reader) (until-answer _ _ _ _ _ _ _ _ _ _ _ _ _ _ c.loop-said.invariant.served reads _ breaks)

pub returns-in_err-answer-clause-reads : goal.returns-in_err-answer-clause-reads
returns-in_err-answer-clause-reads g c =
    rw c.answer.ensures.reader
    (Counts-more c.args.seat.now.reader c.loop-said.seat.reader c.advance.new.self c.loop-said.invariant.reads c.advance.ensures.turns)

pub returns-in_err-answer-clause-few : goal.returns-in_err-answer-clause-few
returns-in_err-answer-clause-few g c = rw c.answer.ensures.reader (c.advance.ensures.few c.loop-said.invariant.most)

-- one line more
pub loop-said-preserved : goal.loop-said-preserved
loop-said-preserved g c =
    let reads = gave-line _ _ _ _ _ c.in_ok-advance.ensures.line c.if-branch.true c.line.ensures in
    let less = c.in_ok-advance.ensures.room c.if-branch.true in
    let lines = counted-line _ _ _ c.in_ok-advance.ensures.lines c.if-branch.true in
    let whole = rw c.said_by-said.ensures at c.in_ok-answer.ensures.whole in
    let asks = rw c.said_by-said.ensures at c.in_ok-answer.ensures.heard in
    let session : c.answer.new.seat.pass.session ≡ c.args.seat.now.pass.session =
    c.answer.ensures.goes_on.session ∙ c.loop-said.invariant.goes_on.session in
    let heard = rw (session, c.answer.ensures.reader) at asks in
    let served = Served-more _ _ _ _ _ _ _ _ _ _ _ _ _ _ c.loop-said.invariant.served reads _ whole heard in
    record {
      served = rw (c.answer.ensures.reader, c.more-ended.ensures.lines, c.more-ended.ensures.bad, c.is_fault.ensures, c.said_by-said.ensures) served;
      lab = c.answer.ensures.lab;
      goes_on = goes-on _ _ _ c.loop-said.invariant.goes_on c.answer.ensures.goes_on;
      few = rw c.answer.ensures.reader (omega (arith, less));
      fewer = omega (arith, one_if-le c.is_fault.result);
      lines = rw (c.answer.ensures.reader, c.more-ended.ensures.lines) (omega (arith, lines, c.loop-said.invariant.lines));
      reads = rw c.answer.ensures.reader
          (Counts-more c.args.seat.now.reader c.loop-said.seat.reader c.advance.new.self c.loop-said.invariant.reads c.advance.ensures.turns);
      most = rw c.answer.ensures.reader (c.advance.ensures.few c.loop-said.invariant.most);
      stays = rw c.answer.ensures.reader (c.in_ok-advance.ensures.stays ∙ c.loop-said.invariant.stays);
      writer_stays = c.in_ok-answer.ensures.stays ∙ c.loop-said.invariant.writer_stays;
    }

-- the end
pub returns-clause-whole : goal.returns-clause-whole
returns-clause-whole g c =
    let over = gave-none _ _ _ _ c.in_ok-advance.ensures.line c.if-branch.false in
    let end = ended-heard g.G.Gate.heard c.loop-said.seat.reader.waiting c.args.seat.now.pass.session (c.in_ok-advance.ensures.awaited c.if-branch.false) in
    Served-whole _ _ _ _ _ _ _ _ _ _ c.loop-said.invariant.served _ _ over end

pub returns-clause-lines : goal.returns-clause-lines
returns-clause-lines g c =
    let lines = counted-none _ _ _ c.in_ok-advance.ensures.lines c.if-branch.false in
    lines ∙ c.loop-said.invariant.lines

pub returns-clause-reads : goal.returns-clause-reads
returns-clause-reads g c = Counts-more c.args.seat.now.reader c.loop-said.seat.reader c.advance.new.self c.loop-said.invariant.reads c.advance.ensures.turns

pub returns-clause-few : goal.returns-clause-few
returns-clause-few g c = c.advance.ensures.few c.loop-said.invariant.most
