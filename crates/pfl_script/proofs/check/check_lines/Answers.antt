use Rattle.std.proofs.Common.{arith, ◌≡◌, ◌+◌, ◌∙◌, ℕ, List, take, refl, subst, inl, inr}
use Rattle.std.specs.Io.KnownBytes.{Appends}
use Rattle.std.proofs.lemmas.Result.{err_from_is_err_and}
use Rattle.pfl_script.specs.Checks.{kept_report}
use Rattle.pfl_script.proofs.CheckedLines.{Went-none, Went-more, Went-uncounted, Went-cut, one_kind}
use Rattle.pfl_reader.proofs.ForCallers.{Counts-begun, Counts-more, counted-line, gave-line, gave-none}
use Rattle.pfl_script.proofs.check.check_lines.Goals as goal

-- no line yet
pub loop-reader-init : goal.loop-reader-init
loop-reader-init g c = record {
  went = Went-none _ _ _ _ _ c.begin.ensures.left c.begin.ensures.lines;
  few = omega (arith, c.begin.ensures.room, c.begin.ensures.lines);
  since = omega (arith, c.begin.ensures.lines);
  fewer = omega (arith, c.begin.ensures.lines);
  reads = Counts-begun c.args.reader.now c.begin.new.self c.begin.ensures.turns c.begin.ensures.reads;
  most = omega (arith, c.begin.ensures.turns);
  stays = c.begin.ensures.failed;
  writer_stays = refl;
}

-- what is reported of a line was written in part
pub returns-in_err-counted-clause-until : goal.returns-in_err-counted-clause-until
returns-in_err-counted-clause-until g c =
    let reads = gave-line _ _ _ _ _ c.in_ok-advance.ensures.line c.if-branch.true c.line.ensures in
    let lines = counted-line _ _ _ c.in_ok-advance.ensures.lines c.if-branch.true in
    let number : c.lines.result ≡ c.loop-reader.reader.lines + 1 = omega (arith, lines, c.lines.ensures, c.loop-reader.invariant.few, c.requires.few_lines) in
    let part = c.in_err-counted.ensures.part in
    let told = subst (λ (i : ℕ). Appends (g.W.Output.written c.loop-reader.writer) (g.W.Output.written c.check_line.new.writer)
    (take part.0 (kept_report i c.line.result))) number part.1 in
    let p = err_from_is_err_and c.from_residual-in_err-counted.result c.from_residual-in_err-counted.ensures.1 in
    rw (p.1, p.2, c.in_err-counted.ensures.fault) (inl (Went-cut _ _ _ _ _ _ _ _ _ _ _ _ c.loop-reader.invariant.went reads told))

-- the last line was written in part
pub returns-in_err-write_text-clause-until : goal.returns-in_err-write_text-clause-until
returns-in_err-write_text-clause-until g c =
    let over = gave-none _ _ _ _ c.in_ok-advance.ensures.line c.if-branch.false in
    let part = c.in_err-write_text.ensures.part in
    let text = c.as_bytes.ensures.value ∙ (c.as_str.ensures.value ∙ c.good_line-last.ensures) in
    let written = subst (λ (s : List ℕ). Appends (g.W.Output.written c.loop-reader.writer) (g.W.Output.written c.write_text.new.writer)
    (take part.0 s)) text part.2 in
    let p = err_from_is_err_and c.from_residual-in_err-write_text.result c.from_residual-in_err-write_text.ensures.1 in
    rw (p.1, p.2, c.in_err-write_text.ensures.fault) (inr (Went-uncounted _ _ _ _ _ _ _ _ _ _ _ c.loop-reader.invariant.went over written))

-- one line more
pub loop-reader-preserved : goal.loop-reader-preserved
loop-reader-preserved g c =
    let reads = gave-line _ _ _ _ _ c.in_ok-advance.ensures.line c.if-branch.true c.line.ensures in
    let less = c.in_ok-advance.ensures.room c.if-branch.true in
    let lines = counted-line _ _ _ c.in_ok-advance.ensures.lines c.if-branch.true in
    let number : c.advance.new.self.lines ≡ c.loop-reader.reader.lines + 1 = omega (arith, lines, c.loop-reader.invariant.few, c.requires.few_lines) in
    let counted : c.lines.result ≡ c.loop-reader.reader.lines + 1 = omega (arith, number, c.lines.ensures) in
    let told = subst (λ (i : ℕ). Appends (g.W.Output.written c.loop-reader.writer) (g.W.Output.written c.check_line.new.writer)
    (kept_report i c.line.result)) counted c.in_ok-counted.ensures.told in
    let went = Went-more _ _ _ _ _ _ _ _ _ _ _ c.loop-reader.invariant.went reads told in
    record {
      went = rw (number, c.plus-checked.ensures.good, c.plus-checked.ensures.bad, c.in_ok-counted.ensures.good, c.in_ok-counted.ensures.bad) went;
      few = omega (arith, less, number, c.loop-reader.invariant.few);
      since = omega (arith, number, c.loop-reader.invariant.since);
      fewer = omega (
        arith,
        number,
        c.loop-reader.invariant.fewer,
        c.plus-checked.ensures.good,
        c.plus-checked.ensures.bad,
        c.in_ok-counted.ensures.good,
        c.in_ok-counted.ensures.bad,
        one_kind c.line.result,
      );
      reads = Counts-more c.args.reader.now c.loop-reader.reader c.advance.new.self c.loop-reader.invariant.reads c.advance.ensures.turns;
      most = c.advance.ensures.few c.loop-reader.invariant.most;
      stays = c.in_ok-advance.ensures.stays ∙ c.loop-reader.invariant.stays;
      writer_stays = c.in_ok-counted.ensures.stays ∙ c.loop-reader.invariant.writer_stays;
    }
