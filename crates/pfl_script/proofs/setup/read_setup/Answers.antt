use Rattle.std.proofs.Common.{arith, refl, ℕ, ◌≡◌, ◌+◌, Bool, subst, ◌∙◌}
use Rattle.std.proofs.lemmas.Result.{err_from_is_err_and}
use Rattle.pfl_script.specs.inner.Setups.{Takes}
use Rattle.pfl_script.specs.Setups.{kept_words}
use Rattle.pfl_script.proofs.Setting.{Going-none, Going-more, Going-open, stops-read, stops-taken, stops-finished, counts-read, counts-taken}
use Rattle.pfl_script.proofs.Setting.{counts-finished, Text-none, Text-more, Text-open, on-ok, on-err}
use Rattle.pfl_reader.proofs.ForCallers.{Counts-begun, Counts-more, counted-line, counted-none, gave-line}
use Rattle.pfl_script.proofs.setup.read_setup.Goals as goal

pub loop-text-init : goal.loop-text-init
loop-text-init g c = record {
  going = rw c.new-draft.ensures (Going-none _ _ c.begin.ensures.left);
  text = Text-none _ _ _ c.begin.ensures.left c.new-3.ensures.items;
  counted = λ fresh. c.begin.ensures.lines ∙ fresh;
  lines = omega (arith, c.begin.ensures.lines, c.begin.ensures.counted);
  few = omega (arith, c.begin.ensures.room);
  reads = Counts-begun c.args.reader.now c.begin.new.self c.begin.ensures.turns c.begin.ensures.reads;
  most = omega (arith, c.begin.ensures.turns);
  stays = c.begin.ensures.failed;
}

-- no line came
pub returns-in_err-advance-clause-fault : goal.returns-in_err-advance-clause-fault
returns-in_err-advance-clause-fault g c =
    let p = err_from_is_err_and c.from_residual.result c.from_residual.ensures.1 in
    rw (p.1, p.2) (stops-read _ _ c.advance.new.self c.in_err-advance.ensures.fault)

pub returns-in_err-advance-clause-lines : goal.returns-in_err-advance-clause-lines
returns-in_err-advance-clause-lines g c =
    let p = err_from_is_err_and c.from_residual.result c.from_residual.ensures.1 in
    rw (p.1, p.2) (c.loop-text.number, counts-read _ _ _ _ _ _ c.loop-text.invariant.going, c.in_err-advance.ensures.uncounted ∙ c.loop-text.invariant.lines)

pub returns-in_err-advance-clause-reads : goal.returns-in_err-advance-clause-reads
returns-in_err-advance-clause-reads g c =
    Counts-more c.args.reader.now c.loop-text.reader c.advance.new.self c.loop-text.invariant.reads c.advance.ensures.turns

pub returns-in_err-advance-clause-few : goal.returns-in_err-advance-clause-few
returns-in_err-advance-clause-few g c = c.advance.ensures.few c.loop-text.invariant.most

-- a line was not taken
pub returns-in_err-take_line-clause-fault : goal.returns-in_err-take_line-clause-fault
returns-in_err-take_line-clause-fault g c =
    let reads = gave-line _ _ _ _ _ c.in_ok-advance.ensures.line c.if-branch.true c.line-line.ensures in
    let p = err_from_is_err_and c.from_residual-in_err-take_line.result c.from_residual-in_err-take_line.ensures.1 in
    rw (p.1, p.2) (stops-taken _ _ c.advance.new.self c.loop-text.number c.loop-text.draft c.line-line.result _ c.loop-text.invariant.going
    reads c.in_err-take_line.ensures.fault)

pub returns-in_err-take_line-clause-lines : goal.returns-in_err-take_line-clause-lines
returns-in_err-take_line-clause-lines g c =
    let reads = gave-line _ _ _ _ _ c.in_ok-advance.ensures.line c.if-branch.true c.line-line.ensures in
    let lines = counted-line _ _ _ c.in_ok-advance.ensures.lines c.if-branch.true in
    let p = err_from_is_err_and c.from_residual-in_err-take_line.result c.from_residual-in_err-take_line.ensures.1 in
    rw (p.1, p.2) (
      c.loop-text.number + 1,
      counts-taken _ _ _ _ c.loop-text.number c.loop-text.draft c.line-line.result
          c.loop-text.invariant.going reads c.in_err-take_line.ensures.fault,
      omega (arith, lines, c.loop-text.invariant.lines),
    )

pub returns-in_err-take_line-clause-reads : goal.returns-in_err-take_line-clause-reads
returns-in_err-take_line-clause-reads g c =
    Counts-more c.args.reader.now c.loop-text.reader c.advance.new.self c.loop-text.invariant.reads c.advance.ensures.turns

pub returns-in_err-take_line-clause-few : goal.returns-in_err-take_line-clause-few
returns-in_err-take_line-clause-few g c = c.advance.ensures.few c.loop-text.invariant.most

-- the setup ends
pub returns-then-branch-2-clause-setup : goal.returns-then-branch-2-clause-setup
returns-then-branch-2-clause-setup g c =
    let reads = gave-line _ _ _ _ _ c.in_ok-advance.ensures.line c.if-branch.true c.line-line.ensures in
    let takes = subst (λ (b : Bool). Takes b (kept_words c.line-line.result) c.loop-text.draft c.take_line.new.self) c.if-branch-2.true
    c.in_ok-take_line.ensures.taken in
    let opens = Going-open _ _ _ _ _ _ c.line-line.result c.loop-text.invariant.going reads takes in
    on-ok c.finish.result (λ s finishes. record {
      draft = c.take_line.new.self;
      number = c.loop-text.number + 1;
      opens = opens;
      finishes = finishes;
    }) c.finish.ensures.setup

-- it ends at the line that was read last
pub returns-then-branch-2-clause-counted : goal.returns-then-branch-2-clause-counted
returns-then-branch-2-clause-counted g c =
    let reads = gave-line _ _ _ _ _ c.in_ok-advance.ensures.line c.if-branch.true c.line-line.ensures in
    let takes = subst (λ (b : Bool). Takes b (kept_words c.line-line.result) c.loop-text.draft c.take_line.new.self) c.if-branch-2.true
    c.in_ok-take_line.ensures.taken in
    let opens = Going-open _ _ _ _ _ _ c.line-line.result c.loop-text.invariant.going reads takes in
    let lines = counted-line _ _ _ c.in_ok-advance.ensures.lines c.if-branch.true in
    let less = c.in_ok-advance.ensures.room c.if-branch.true in
    on-ok c.finish.result (λ s finishes fresh.
    let was = c.loop-text.invariant.counted fresh in
    let number : c.advance.new.self.lines ≡ c.loop-text.number + 1 = omega (arith, lines, was, less, c.loop-text.invariant.few) in
    record { draft = c.take_line.new.self; opens = rw number opens; finishes = finishes }) c.finish.ensures.setup

-- so does its text
pub returns-then-branch-2-clause-text : goal.returns-then-branch-2-clause-text
returns-then-branch-2-clause-text g c =
    let reads = gave-line _ _ _ _ _ c.in_ok-advance.ensures.line c.if-branch.true c.line-line.ensures in
    let takes = subst (λ (b : Bool). Takes b (kept_words c.line-line.result) c.loop-text.draft c.take_line.new.self) c.if-branch-2.true
    c.in_ok-take_line.ensures.taken in
    let text = Text-open _ _ _ _ _ c.line-line.result _ c.text.ensures c.loop-text.invariant.text reads c.with_line-text.ensures takes.0 in
    on-ok c.finish.result (λ s is. rw is text) c.finish.ensures.text

-- the rules have a fault
pub returns-then-branch-2-clause-fault : goal.returns-then-branch-2-clause-fault
returns-then-branch-2-clause-fault g c =
    let reads = gave-line _ _ _ _ _ c.in_ok-advance.ensures.line c.if-branch.true c.line-line.ensures in
    let takes = subst (λ (b : Bool). Takes b (kept_words c.line-line.result) c.loop-text.draft c.take_line.new.self) c.if-branch-2.true
    c.in_ok-take_line.ensures.taken in
    let opens = Going-open _ _ _ _ _ _ c.line-line.result c.loop-text.invariant.going reads takes in
    on-err c.finish.result (λ e stop. stops-finished _ c.advance.new.self (c.loop-text.number + 1) c.take_line.new.self e opens stop) c.finish.ensures.fault

pub returns-then-branch-2-clause-lines : goal.returns-then-branch-2-clause-lines
returns-then-branch-2-clause-lines g c =
    let reads = gave-line _ _ _ _ _ c.in_ok-advance.ensures.line c.if-branch.true c.line-line.ensures in
    let takes = subst (λ (b : Bool). Takes b (kept_words c.line-line.result) c.loop-text.draft c.take_line.new.self) c.if-branch-2.true
    c.in_ok-take_line.ensures.taken in
    let opens = Going-open _ _ _ _ _ _ c.line-line.result c.loop-text.invariant.going reads takes in
    let lines = counted-line _ _ _ c.in_ok-advance.ensures.lines c.if-branch.true in
    on-err c.finish.result (λ e stop. (
      c.loop-text.number + 1,
      counts-finished e _ _ (c.loop-text.number + 1) c.take_line.new.self opens stop,
      omega
          (arith, lines, c.loop-text.invariant.lines),
    )) c.finish.ensures.fault

pub returns-then-branch-2-clause-reads : goal.returns-then-branch-2-clause-reads
returns-then-branch-2-clause-reads g c = Counts-more c.args.reader.now c.loop-text.reader c.advance.new.self c.loop-text.invariant.reads c.advance.ensures.turns

pub returns-then-branch-2-clause-few : goal.returns-then-branch-2-clause-few
returns-then-branch-2-clause-few g c = c.advance.ensures.few c.loop-text.invariant.most

-- no line is left
pub returns-clause-lines : goal.returns-clause-lines
returns-clause-lines g c =
    let lines = counted-none _ _ _ c.in_ok-advance.ensures.lines c.if-branch.false in
    (c.loop-text.number, refl, lines ∙ c.loop-text.invariant.lines)

pub returns-clause-reads : goal.returns-clause-reads
returns-clause-reads g c = Counts-more c.args.reader.now c.loop-text.reader c.advance.new.self c.loop-text.invariant.reads c.advance.ensures.turns

pub returns-clause-few : goal.returns-clause-few
returns-clause-few g c = c.advance.ensures.few c.loop-text.invariant.most

-- one line more
pub loop-text-preserved : goal.loop-text-preserved
loop-text-preserved g c =
    let reads = gave-line _ _ _ _ _ c.in_ok-advance.ensures.line c.if-branch.true c.line-line.ensures in
    let takes = subst (λ (b : Bool). Takes b (kept_words c.line-line.result) c.loop-text.draft c.take_line.new.self) c.if-branch-2.false
    c.in_ok-take_line.ensures.taken in
    let less = c.in_ok-advance.ensures.room c.if-branch.true in
    let lines = counted-line _ _ _ c.in_ok-advance.ensures.lines c.if-branch.true in
    record {
      counted = λ fresh. let was = c.loop-text.invariant.counted fresh in omega (arith, lines, was, less, c.loop-text.invariant.few);
      going = Going-more _ _ _ _ _ _ c.line-line.result c.loop-text.invariant.going reads takes;
      text = Text-more _ _ _ _ _ c.line-line.result _ c.text.ensures c.loop-text.invariant.text reads c.with_line-text.ensures;
      lines = omega (arith, lines, c.loop-text.invariant.lines);
      few = omega (arith, less, c.loop-text.invariant.few);
      reads = Counts-more c.args.reader.now c.loop-text.reader c.advance.new.self c.loop-text.invariant.reads c.advance.ensures.turns;
      most = c.advance.ensures.few c.loop-text.invariant.most;
      stays = c.in_ok-advance.ensures.stays ∙ c.loop-text.invariant.stays;
    }
