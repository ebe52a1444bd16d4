-- A check of lines, line by line.
use Rattle.std.proofs.Common.{◌≡◌, ℕ, ◌+◌, ◌≤◌, Bool, true, false, List, [], ◌∷◌, ◌++◌, length, take, refl, sym, ◌∙◌, ap, subst, arith, length-append}
use Rattle.std.proofs.Common.{append_assoc, Option}
use Rattle.std.specs.Prelude.{not, ◌&&◌, is_err}
use Rattle.std.specs.Io.KnownBytes.{Appends}
use Rattle.std.proofs.lemmas.List.{append-nil}
use Rattle.pfl_reader.specs.Scans.{Kept, Keeps, ReadsLine, TakesLines, IsOver, has_word}
use Rattle.pfl_reader.specs.Saids.{kept_said}
use Rattle.pfl_script.specs.Answers.{is_command, kept_bad, kept_command, bad_lines, one_if}
use Rattle.pfl_script.specs.Checks.{line_report, kept_report, lines_report, good_lines, good_text, ChecksPart, ChecksUncounted}
use Rattle.pfl_script.proofs.Pieces.{appends_none, appends_then}
use Rattle.pfl_script.proofs.Running.{said-kept, bad-kept, command-kept, bad_lines-push, taken-none, taken-line, taken-all, taken-drained}

-- lines after line m were checked so far, the last of which is line n
pub record Went (old new : Option (List ℕ)) (m n : ℕ) (w v : Option (List ℕ)) (good bad : ℕ) : Type 0 where
  pub lines : List (List ℕ)
  pub left : TakesLines old new lines
  pub written : Appends w v (lines_report m lines)
  pub number : n ≡ m + length lines
  pub commands : good ≡ good_lines lines
  pub faulty : bad ≡ bad_lines lines

-- what is reported of what is kept of a line is what is reported of the line
told-kept : (n : ℕ) (k : Kept) (body : List ℕ) → Keeps k body → kept_report n k ≡ line_report n body
unfolding kept_report line_report
told-kept n k body h = rw (h.head, said-kept k body h) refl

-- what is reported of one line more
told-push : (m : ℕ) (lines : List (List ℕ)) (line : List ℕ) →
    lines_report m (lines ++ line ∷ []) ≡ lines_report m lines ++ line_report (m + length lines + 1) line
told-push m [] line =
    let at : m + 1 ≡ m + length {A = List ℕ} [] + 1 = omega arith in
    append-nil _ ∙ ap (λ (i : ℕ). line_report i line) at
told-push m (x ∷ lines) line =
    let at : m + 1 + length lines + 1 ≡ m + length (x ∷ lines) + 1 = omega arith in
    ap (λ (s : List ℕ). line_report (m + 1) x ++ s) (told-push (m + 1) lines line)
    ∙ (sym (append_assoc (line_report (m + 1) x) (lines_report (m + 1) lines) _)
    ∙ ap (λ (i : ℕ). (line_report (m + 1) x ++ lines_report (m + 1) lines) ++ line_report i line) at)

-- the commands of one line more
good_lines-push : (lines : List (List ℕ)) (line : List ℕ) → good_lines (lines ++ line ∷ []) ≡ good_lines lines + one_if (is_command line)
good_lines-push [] line = omega arith
good_lines-push (x ∷ lines) line = omega (arith, good_lines-push lines line)

-- no line yet
pub Went-none : (old mid : Option (List ℕ)) (m n : ℕ) (w : Option (List ℕ)) → mid ≡ old → n ≡ m → Went old mid m n w w 0 0
Went-none old mid m n w e same = record {
  lines = [];
  left = rw e (taken-none old);
  written = appends_none w;
  number = omega (arith, same);
  commands = refl;
  faulty = refl;
}

-- one line more
pub Went-more : (old mid new : Option (List ℕ)) (m n : ℕ) (w v x : Option (List ℕ)) (good bad : ℕ) (k : Kept) →
    Went old mid m n w v good bad → ReadsLine k mid new → Appends v x (kept_report (n + 1) k) →
    Went old new m (n + 1) w x (good + one_if (kept_command k)) (bad + one_if (kept_bad k))
Went-more old mid new m n w v x good bad k went reads appends =
    let line = reads.body in
    let lines = went.lines in
    let told : kept_report (n + 1) k ≡ line_report (m + length lines + 1) line =
    told-kept (n + 1) k line reads.keeps ∙ ap (λ (i : ℕ). line_report (i + 1) line) went.number in
    record {
      lines = lines ++ line ∷ [];
      left = taken-line old mid new lines line went.left reads.takes;
      written = rw (told-push m lines line) (appends_then w v x (lines_report m lines) _ went.written (subst (λ (s : List ℕ). Appends v x s) told appends));
      number = omega (arith, went.number, length-append lines (line ∷ []));
      commands = rw (went.commands, command-kept k line reads.keeps, good_lines-push lines line) refl;
      faulty = rw (went.faulty, bad-kept k line reads.keeps, bad_lines-push lines line) refl;
    }

-- the end was reached, and the last line was written in part
pub Went-uncounted : (old mid new : Option (List ℕ)) (m n : ℕ) (w v x : Option (List ℕ)) (good bad part : ℕ) →
    Went old mid m n w v good bad → IsOver mid new → Appends v x (take part (good_text good)) → ChecksUncounted old new m w x
Went-uncounted old mid new m n w v x good bad part went over appends = record {
  lines = went.lines;
  all = taken-all old mid new went.lines went.left over;
  end = taken-drained old mid new went.lines went.left over;
  part = part;
  written = appends_then w v x (lines_report m went.lines) _ went.written (subst (λ (i : ℕ). Appends v x (take part (good_text i))) went.commands appends);
}

-- what is reported of the last line was written in part
pub Went-cut : (old mid new : Option (List ℕ)) (m n : ℕ) (w v x : Option (List ℕ)) (good bad part : ℕ) (k : Kept) →
    Went old mid m n w v good bad → ReadsLine k mid new → Appends v x (take part (kept_report (n + 1) k)) → ChecksPart old new m w x
Went-cut old mid new m n w v x good bad part k went reads appends =
    let line = reads.body in
    let lines = went.lines in
    let told : kept_report (n + 1) k ≡ line_report (m + length lines + 1) line =
    told-kept (n + 1) k line reads.keeps ∙ ap (λ (i : ℕ). line_report (i + 1) line) went.number in
    record {
      lines = lines;
      last = line;
      taken = taken-line old mid new lines line went.left reads.takes;
      part = part;
      written = appends_then w v x (lines_report m lines) _ went.written (subst (λ (s : List ℕ). Appends v x (take part s)) told appends);
    }

-- a line is a command or a faulty one, or neither
kinds : (word faulty : Bool) → one_if (word && not faulty) + one_if (word && faulty) ≤ 1
kinds true true = omega arith
kinds true false = omega arith
kinds false true = omega arith
kinds false false = omega arith

pub one_kind : (k : Kept) → one_if (kept_command k) + one_if (kept_bad k) ≤ 1
unfolding kept_command kept_bad
one_kind k = kinds (has_word k.head) (is_err (kept_said k))
