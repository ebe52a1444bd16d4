-- A run of lines, line by line.
use Rattle.std.proofs.Common.{◌≡◌, ℕ, ◌+◌, ◌≤◌, Bool, true, false, List, [], ◌∷◌, ◌++◌, length, take, refl, sym, ◌∙◌, ap, subst, arith, length-append}
use Rattle.std.proofs.Common.{append_assoc, inl, inr, Option, Some, None, Result}
use Rattle.std.specs.Io.KnownBytes.{Appends}
use Rattle.std.proofs.lemmas.Bool.{lt-ltb, le-ltb, cases_lt}
use Rattle.std.proofs.lemmas.List.{append-nil, take_all}
use Rattle.pfl_lines.specs.declared.fault.LineFault.{LineFault}
use Rattle.pfl_lines.specs.declared.search.ScriptLine.{ScriptLine}
use Rattle.pfl_lines.specs.Search.{parsed_script}
use Rattle.pfl_timeline.specs.Timelines.{Timeline}
use Rattle.pfl_reader.specs.Lines.{lines_of}
use Rattle.pfl_reader.specs.Scans.{Kept, Keeps, ReadsLine, TakesLine, TakesLines, IsOver}
use Rattle.pfl_reader.specs.Saids.{kept_said}
use Rattle.pfl_script.specs.Answers.{Answer, line_answer, is_bad, is_command, kept_answer, kept_bad, kept_command, text, timeline_after, bad_lines}
use Rattle.pfl_script.specs.Answers.{one_if, MayWant, AreLines, AreFirst, Drains, RunsWhole, RunsPart, RunsLines, RunsBroken, RunsUnanswered, RunsUntil}
use Rattle.pfl_script.specs.inner.Answers.{Breaks}
use Rattle.pfl_script.specs.declared.fault.EngineFault.{EngineFault}
use Rattle.pfl_script.specs.declared.fault.EngineFault.TheVariants as engine
use Rattle.pfl_reader.specs.Readers.{Source, IsReadFault}
use Rattle.pfl_reader.specs.declared.fault.ReadFault.{ReadFault}
use Rattle.pfl_reader.specs.declared.fault.ReadFault.TheVariants as read
use Rattle.pfl_script.specs.Readers.{IsRunFault, IsWriteFault, of_read}
use Rattle.pfl_script.proofs.Pieces.{appends_none, appends_then}

-- lines were executed so far
pub record Ran (old new : Option (List ℕ)) (t u : Timeline) (w v : Option (List ℕ)) (n bad : ℕ) : Type 0 where
  pub lines : List (List ℕ)
  pub left : TakesLines old new lines
  pub timeline : u ≡ timeline_after lines t
  pub written : Appends w v (text lines t)
  pub counted : n ≡ length lines
  pub faulty : bad ≡ bad_lines lines

-- what is kept of a line says what the line says
pub said-kept : (k : Kept) (body : List ℕ) → Keeps k body → kept_said k ≡ parsed_script body
unfolding parsed_script
said-kept k body h = elim (cases_lt 512 (length body)) [
  | inl long ↦ rw (h.long, lt-ltb 512 (length body) long) refl
  | inr short ↦ rw (h.long, le-ltb 512 (length body) short, h.bytes, take_all 512 body short, le-ltb 512 (length body) short) refl
]

-- the answer to what is kept of a line is the answer to the line
answer-kept : (k : Kept) (body : List ℕ) (t : Timeline) → Keeps k body → kept_answer k t ≡ line_answer body t
unfolding kept_answer line_answer
answer-kept k body t h = rw (h.head, said-kept k body h) refl

-- what is kept of a line is faulty where the line is
pub bad-kept : (k : Kept) (body : List ℕ) → Keeps k body → kept_bad k ≡ is_bad body
unfolding kept_bad is_bad
bad-kept k body h = rw (h.head, said-kept k body h) refl

-- what is kept of a line is a command where the line is
pub command-kept : (k : Kept) (body : List ℕ) → Keeps k body → kept_command k ≡ is_command body
unfolding kept_command is_command
command-kept k body h = rw (h.head, said-kept k body h) refl

-- one line more
after-push : (lines : List (List ℕ)) (line : List ℕ) (t : Timeline)
    → timeline_after (lines ++ line ∷ []) t ≡ (line_answer line (timeline_after lines t)).timeline
after-push [] line t = refl
after-push (x ∷ lines) line t = after-push lines line (line_answer x t).timeline

-- the text of one line more
text-push : (lines : List (List ℕ)) (line : List ℕ) (t : Timeline) →
    text (lines ++ line ∷ []) t ≡ text lines t ++ (line_answer line (timeline_after lines t)).text
text-push [] line t = append-nil _
text-push (x ∷ lines) line t =
    ap (λ (s : List ℕ). (line_answer x t).text ++ s) (text-push lines line (line_answer x t).timeline)
    ∙ sym (append_assoc (line_answer x t).text (text lines (line_answer x t).timeline) _)

-- the faulty ones of one line more
pub bad_lines-push : (lines : List (List ℕ)) (line : List ℕ) → bad_lines (lines ++ line ∷ []) ≡ bad_lines lines + one_if (is_bad line)
bad_lines-push [] line = omega arith
bad_lines-push (x ∷ lines) line = omega (arith, bad_lines-push lines line)

-- the next line is taken
pub taken-line : (old mid new : Option (List ℕ)) (lines : List (List ℕ)) (line : List ℕ) →
    TakesLines old mid lines → TakesLine mid new line → TakesLines old new (lines ++ line ∷ [])
taken-line None mid new lines line h t = tt
taken-line (Some xs) None new lines line h t = absurd h
taken-line (Some xs) (Some ys) None lines line h t = absurd t
taken-line (Some xs) (Some ys) (Some zs) lines line h t =
    h ∙ (ap (λ (ls : List (List ℕ)). lines ++ ls) t ∙ sym (append_assoc lines (line ∷ []) (lines_of zs)))

-- lines that were taken are the first
pub taken-first : (old new : Option (List ℕ)) (lines : List (List ℕ)) → TakesLines old new lines → AreFirst old lines
taken-first None new lines h = tt
taken-first (Some xs) None lines h = absurd h
taken-first (Some xs) (Some ys) lines h = (lines_of ys, h)

-- where nothing is left, the lines that were taken are all
pub taken-all : (old mid new : Option (List ℕ)) (lines : List (List ℕ)) → TakesLines old mid lines → IsOver mid new → AreLines old lines
taken-all None mid new lines h t = tt
taken-all (Some xs) None new lines h t = absurd h
taken-all (Some xs) (Some ys) None lines h t = absurd t
taken-all (Some xs) (Some ys) (Some zs) lines h t =
    let at : lines_of xs ≡ lines ++ lines_of [] = subst (λ (y : List ℕ). lines_of xs ≡ lines ++ lines_of y) t.0 h in
    sym (at ∙ append-nil lines)

-- where nothing was left, nothing is
pub taken-drained : (old mid new : Option (List ℕ)) (lines : List (List ℕ)) → TakesLines old mid lines → IsOver mid new → Drains old new
taken-drained None mid new lines h t = tt
taken-drained (Some xs) None new lines h t = absurd h
taken-drained (Some xs) (Some ys) None lines h t = absurd t
taken-drained (Some xs) (Some ys) (Some zs) lines h t = t.1

-- no line was taken
pub taken-none : (known : Option (List ℕ)) → TakesLines known known []
taken-none None = tt
taken-none (Some xs) = refl

-- no line yet
pub Ran-none : (old mid : Option (List ℕ)) (t : Timeline) (w : Option (List ℕ)) → mid ≡ old → Ran old mid t t w w 0 0
Ran-none old mid t w e = record {
  lines = [];
  left = rw e (taken-none old);
  timeline = refl;
  written = appends_none w;
  counted = refl;
  faulty = refl;
}

-- one line more
pub Ran-more : (old mid new : Option (List ℕ)) (t u s : Timeline) (w v x : Option (List ℕ)) (n bad : ℕ) (k : Kept) →
    Ran old mid t u w v n bad → ReadsLine k mid new → s ≡ (kept_answer k u).timeline → Appends v x (kept_answer k u).text →
    Ran old new t s w x (n + 1) (bad + one_if (kept_bad k))
Ran-more old mid new t u s w v x n bad k ran reads moved appends =
    let line = reads.body in
    let lines = ran.lines in
    let answer : kept_answer k u ≡ line_answer line (timeline_after lines t) =
    answer-kept k line u reads.keeps ∙ ap (line_answer line) ran.timeline in
    record {
      lines = lines ++ line ∷ [];
      left = taken-line old mid new lines line ran.left reads.takes;
      timeline = moved ∙ (ap (λ (a : Answer). a.timeline) answer ∙ sym (after-push lines line t));
      written = rw (text-push lines line t) (appends_then w v x (text lines t) _ ran.written (subst (λ (a : Answer). Appends v x a.text) answer appends));
      counted = omega (arith, ran.counted, length-append lines (line ∷ []));
      faulty = rw (ran.faulty, bad-kept k line reads.keeps, bad_lines-push lines line) refl;
    }

-- the end was reached
pub Ran-whole : (old mid new : Option (List ℕ)) (t u : Timeline) (w v : Option (List ℕ)) (n bad : ℕ) →
    Ran old mid t u w v n bad → IsOver mid new → RunsWhole old new t u w v n bad
Ran-whole old mid new t u w v n bad ran over = record {
  lines = ran.lines;
  all = taken-all old mid new ran.lines ran.left over;
  end = taken-drained old mid new ran.lines ran.left over;
  timeline = ran.timeline;
  written = ran.written;
  counted = ran.counted;
  faulty = ran.faulty;
}

-- no further line came
pub Ran-part : (old mid : Option (List ℕ)) (t u : Timeline) (w v : Option (List ℕ)) (n bad : ℕ) →
    Ran old mid t u w v n bad → RunsPart old t u w v
Ran-part old mid t u w v n bad ran = record {
  lines = ran.lines;
  last = [];
  few = omega arith;
  first = rw append-nil (taken-first old mid ran.lines ran.left);
  timeline = rw append-nil ran.timeline;
  part = 0;
  written = rw append-nil ran.written;
}

-- the last line's text was not written whole
Ran-cut : (old mid new : Option (List ℕ)) (t u s : Timeline) (w v x : Option (List ℕ)) (n bad : ℕ) (k : Kept) →
    Ran old mid t u w v n bad → ReadsLine k mid new → Breaks (kept_answer k u) s v x → RunsBroken old new t s w x
Ran-cut old mid new t u s w v x n bad k ran reads broken =
    let line = reads.body in
    let lines = ran.lines in
    let answer : kept_answer k u ≡ line_answer line (timeline_after lines t) =
    answer-kept k line u reads.keeps ∙ ap (line_answer line) ran.timeline in
    record {
      lines = lines;
      last = line;
      taken = taken-line old mid new lines line ran.left reads.takes;
      timeline = broken.0 ∙ (ap (λ (a : Answer). a.timeline) answer ∙ sym (after-push lines line t));
      part = broken.1.0;
      written = appends_then w v x (text lines t) _ ran.written
          (subst (λ (a : Answer). Appends v x (take broken.1.0 a.text)) answer broken.1.1);
    }

cut-part : (old new : Option (List ℕ)) (t s : Timeline) (w x : Option (List ℕ)) → RunsBroken old new t s w x → RunsPart old t s w x
cut-part old new t s w x cut = record {
  lines = cut.lines;
  last = cut.last ∷ [];
  few = omega arith;
  first = taken-first old new (cut.lines ++ cut.last ∷ []) cut.taken;
  timeline = cut.timeline;
  part = cut.part;
  written = rw append-nil cut.written;
}

-- the last line's answer failed
pub Ran-broken : (e : EngineFault) (failed : Bool) (old mid new : Option (List ℕ)) (t u s : Timeline) (w v x : Option (List ℕ)) (n bad : ℕ) (k : Kept) →
    Ran old mid t u w v n bad → ReadsLine k mid new → IsWriteFault e failed → (e ≡ engine.Write → Breaks (kept_answer k u) s v x) →
    (e ≡ engine.NoMemory → x ≡ v) → (e ≡ engine.NoMemory → s ≡ u) → RunsPart old t s w x
Ran-broken engine.Write failed old mid new t u s w v x n bad k ran reads why breaks same unchanged =
    cut-part old new t s w x (Ran-cut old mid new t u s w v x n bad k ran reads (breaks refl))
Ran-broken engine.NoMemory failed old mid new t u s w v x n bad k ran reads why breaks same unchanged =
    rw (unchanged refl, same refl) (Ran-part old mid t u w v n bad ran)
Ran-broken engine.Read failed old mid new t u s w v x n bad k ran reads why breaks same unchanged = absurd why
Ran-broken engine.TooManyTurns failed old mid new t u s w v x n bad k ran reads why breaks same unchanged = absurd why

-- what was written for the lines is whole
pub Ran-lines : (old mid : Option (List ℕ)) (t u : Timeline) (w v : Option (List ℕ)) (n bad : ℕ) →
    Ran old mid t u w v n bad → RunsLines old t u w v
Ran-lines old mid t u w v n bad ran = record {
  lines = ran.lines;
  first = taken-first old mid ran.lines ran.left;
  timeline = ran.timeline;
  written = ran.written;
}

-- the last line, which may want memory, has no answer
pub Ran-unanswered : (old mid new : Option (List ℕ)) (t u s : Timeline) (w v x : Option (List ℕ)) (n bad : ℕ) (k : Kept) →
    Ran old mid t u w v n bad → ReadsLine k mid new → kept_command k ≡ true → MayWant (kept_said k) u → x ≡ v → s ≡ u →
    RunsUnanswered old new t s w x
Ran-unanswered old mid new t u s w v x n bad k ran reads command wants same unchanged = record {
  lines = ran.lines;
  last = reads.body;
  taken = taken-line old mid new ran.lines reads.body ran.left reads.takes;
  command = sym (command-kept k reads.body reads.keeps) ∙ command;
  wants = subst (λ (said : Result ScriptLine LineFault). MayWant said (timeline_after ran.lines t)) (said-kept k reads.body reads.keeps)
      (subst (λ (at : Timeline). MayWant (kept_said k) at) ran.timeline wants);
  timeline = unchanged ∙ ran.timeline;
  written = rw same ran.written;
}

-- no further line came, for this reason
pub until-read : (e : ReadFault) (old mid new : Option (List ℕ)) (t u : Timeline) (w v : Option (List ℕ)) (n bad : ℕ) →
    Ran old mid t u w v n bad → RunsUntil (of_read e) old new t u w v
until-read read.Read old mid new t u w v n bad ran = Ran-lines old mid t u w v n bad ran
until-read read.TooManyTurns old mid new t u w v n bad ran = Ran-lines old mid t u w v n bad ran

-- the run stops by what the reader reports
pub run-read : (e : ReadFault) (new : Source) (failed : Bool) → IsReadFault e new → IsRunFault (of_read e) new failed
run-read read.Read new failed why = why
run-read read.TooManyTurns new failed why = why

-- the last line's answer failed, for this reason
pub until-answer : (e : EngineFault) (failed : Bool) (old mid new : Option (List ℕ)) (t u s : Timeline) (w v x : Option (List ℕ)) (n bad : ℕ) (k : Kept) →
    Ran old mid t u w v n bad → ReadsLine k mid new → IsWriteFault e failed → (e ≡ engine.Write → Breaks (kept_answer k u) s v x) →
    (e ≡ engine.NoMemory → kept_command k ≡ true) → (e ≡ engine.NoMemory → MayWant (kept_said k) u) → (e ≡ engine.NoMemory → x ≡ v) →
    (e ≡ engine.NoMemory → s ≡ u) → RunsUntil e old new t s w x
until-answer engine.Write failed old mid new t u s w v x n bad k ran reads why breaks command wants same unchanged =
    Ran-cut old mid new t u s w v x n bad k ran reads (breaks refl)
until-answer engine.NoMemory failed old mid new t u s w v x n bad k ran reads why breaks command wants same unchanged =
    Ran-unanswered old mid new t u s w v x n bad k ran reads (command refl) (wants refl) (same refl) (unchanged refl)
until-answer engine.Read failed old mid new t u s w v x n bad k ran reads why breaks command wants same unchanged = absurd why
until-answer engine.TooManyTurns failed old mid new t u s w v x n bad k ran reads why breaks command wants same unchanged = absurd why

-- one line is at most one faulty line
pub one_if-le : (b : Bool) → one_if b ≤ 1
one_if-le true = omega arith
one_if-le false = omega arith
