-- A session is served line by line.
use Rattle.std.proofs.Common.{◌≡◌, ℕ, ◌+◌, Bool, true, false, List, [], ◌∷◌, ◌++◌, length, take, refl, sym, ◌∙◌, ap, subst, arith}
use Rattle.std.proofs.Common.{length-append, append_assoc, inl, inr, Option}
use Rattle.std.specs.Prelude.{Result}
use Rattle.std.specs.Io.KnownBytes.{Appends}
use Rattle.std.proofs.lemmas.Bool.{lt-ltb, le-ltb, cases_lt}
use Rattle.std.proofs.lemmas.List.{append-nil, take_all}
use Rattle.pfl_session.specs.Passes.{Seen}
use Rattle.pfl_script.specs.lines.declared.fault.LineFault.{LineFault}
use Rattle.pfl_script.specs.lines.declared.session.SessionLine.{SessionLine}
use Rattle.pfl_script.specs.lines.Session.{parsed_session}
use Rattle.pfl_script.specs.reader.Saids.{kept_session}
use Rattle.pfl_script.specs.Answers.{one_if}
use Rattle.pfl_script.specs.reader.Scans.{Kept, Keeps, ReadsLine, TakesLines, IsOver}
use Rattle.pfl_script.specs.declared.fault.EngineFault.{EngineFault}
use Rattle.pfl_script.specs.declared.fault.EngineFault.TheVariants as engine
use Rattle.pfl_script.specs.reader.declared.fault.ReadFault.{ReadFault}
use Rattle.pfl_script.specs.reader.declared.fault.ReadFault.TheVariants as read
use Rattle.pfl_script.specs.Readers.{of_read}
use Rattle.pfl_script.proofs.ForCallers.{appends_none, appends_then, taken-none, taken-line, taken-first, taken-all, taken-drained}
use Rattle.pfl_serve.specs.Sessions.{said, asks_follow, ends_in_follow, is_fault, bad_lines, IsAnswer, IsBegun, Lacks, Serves, Site}
use Rattle.pfl_serve.specs.Sessions.{ServesWhole, ServesFirst, ServesPart, ServesUnanswered, ServesUntil}
use Rattle.pfl_serve.specs.inner.Answers.{kept_said, HasCome, Writes, Breaks}

-- what is kept of a line says to a session what the line says
session-kept : (k : Kept) (body : List ℕ) → Keeps k body → kept_session k ≡ parsed_session body
unfolding parsed_session
session-kept k body h = elim (cases_lt 512 (length body)) [
  | inl long ↦ rw (h.long, lt-ltb 512 (length body) long) refl
  | inr short ↦ rw (h.long, le-ltb 512 (length body) short, h.bytes, take_all 512 body short, le-ltb 512 (length body) short) refl
]

said-kept : (k : Kept) (body : List ℕ) → Keeps k body → kept_said k ≡ said body
unfolding kept_said said
said-kept k body h = rw (h.head, session-kept k body h) refl

-- the faulty ones of one line more
bad_lines-push : (lines : List (List ℕ)) (line : List ℕ) → bad_lines (lines ++ line ∷ []) ≡ bad_lines lines + one_if (is_fault (said line))
bad_lines-push [] line = omega arith
bad_lines-push (x ∷ lines) line = omega (arith, bad_lines-push lines line)

-- the last line asks to follow
ends_in_follow-push : (lines : List (List ℕ)) (line : List ℕ) → ends_in_follow (lines ++ line ∷ []) ≡ asks_follow (said line)
ends_in_follow-push [] line = refl
ends_in_follow-push (x ∷ []) line = refl
ends_in_follow-push (x ∷ y ∷ lines) line = ends_in_follow-push (y ∷ lines) line

module _ {M : Type 0} where
  module _ (site : Site) where
    -- one line more
    serves-push : (lines : List (List ℕ)) (line : List ℕ) (old mid new : Seen M) (text answer : List ℕ) →
        Serves site lines old mid text → IsAnswer site (said line) mid new answer →
        Serves site (lines ++ line ∷ []) old new (text ++ answer)
    serves-push [] line old mid new text answer h a =
        (new, answer, [], subst (λ (p : Seen M). IsAnswer site (said line) p new answer) h.0 a, (refl, refl), rw h.1 (sym (append-nil answer)))
    serves-push (x ∷ lines) line old mid new text answer h a =
        let m = h.0 in
        let first = h.1 in
        let rest = h.2 in (
          m,
          first,
          rest ++ answer,
          h.3,
          serves-push lines line m mid new rest answer h.4 a,
          ap (λ (s : List ℕ). s ++ answer) h.5 ∙ append_assoc first rest answer,
        )

    -- lines had their replies so far; where the last one asked to follow, the next one has come, or the end
    pub record Served (Came : Type 0) (left rest : Option (List ℕ)) (old new : Seen M) (w v : Option (List ℕ)) (count bad : ℕ) : Type 0 where
      pub lines : List (List ℕ)
      pub taken : TakesLines left rest lines
      pub text : List ℕ
      pub serves : Serves site lines old new text
      pub written : Appends w v text
      pub counted : count ≡ length lines
      pub faulty : bad ≡ bad_lines lines
      pub heard : ends_in_follow lines ≡ true → Came

    -- no line yet
    pub Served-none : (Came : Type 0) (left rest : Option (List ℕ)) (old : Seen M) (w : Option (List ℕ)) → rest ≡ left
        → Served Came left rest old old w w 0 0
    Served-none Came left rest old w e = record {
      lines = [];
      taken = rw e (taken-none left);
      text = [];
      serves = (refl, refl);
      written = appends_none w;
      counted = refl;
      faulty = refl;
      heard = λ last. cc;
    }

    module _ (Had : Type 0) (left mid rest : Option (List ℕ)) (old p q : Seen M) (w v x : Option (List ℕ)) (count bad : ℕ) (k : Kept)
        (so_far : Served Had left mid old p w v count bad) (reads : ReadsLine k mid rest) where
      -- the answer to what is kept of the line is the answer to the line
      answered : (text : List ℕ) → IsAnswer site (kept_said k) p q text → IsAnswer site (said reads.body) p q text
      answered text a = subst (λ (s : Option (Result SessionLine LineFault)). IsAnswer site s p q text) (said-kept k reads.body reads.keeps) a

      taken-more : TakesLines left rest (so_far.lines ++ reads.body ∷ [])
      taken-more = taken-line left mid rest so_far.lines reads.body so_far.taken reads.takes

      -- one line more
      pub Served-more : (Came : Type 0) → Writes (IsAnswer site (kept_said k) p q) v x → (asks_follow (kept_said k) ≡ true → Came)
          → Served Came left rest old q w x (count + 1) (bad + one_if (is_fault (kept_said k)))
      Served-more Came writes heard = record {
        lines = so_far.lines ++ reads.body ∷ [];
        taken = taken-more;
        text = so_far.text ++ writes.0;
        serves = serves-push so_far.lines reads.body old p q so_far.text writes.0 so_far.serves (answered writes.0 writes.1);
        written = appends_then w v x so_far.text writes.0 so_far.written writes.2;
        counted = omega (arith, so_far.counted, length-append so_far.lines (reads.body ∷ []));
        faulty = rw (so_far.faulty, said-kept k reads.body reads.keeps, bad_lines-push so_far.lines reads.body) refl;
        heard = λ last. heard (ap asks_follow (said-kept k reads.body reads.keeps) ∙ (sym (ends_in_follow-push so_far.lines reads.body) ∙ last));
      }

      -- the last line's text was written in part
      served-part : (text : List ℕ) (part : ℕ) → IsBegun site (kept_said k) p q text → Appends v x (take part text) → ServesPart site left rest old q w x
      served-part text part a appends = record {
        lines = so_far.lines;
        last = reads.body;
        taken = taken-more;
        mid = p;
        text = so_far.text;
        serves = so_far.serves;
        answer = text;
        answers = subst (λ (s : Option (Result SessionLine LineFault)). IsBegun site s p q text) (said-kept k reads.body reads.keeps) a;
        part = part;
        written = appends_then w v x so_far.text (take part text) so_far.written appends;
      }

      -- the last line's answer wanted memory
      served-unanswered : (text : List ℕ) → Lacks site (kept_said k) p q text → Appends v x text → ServesUnanswered site left rest old q w x
      served-unanswered text lacks appends = record {
        lines = so_far.lines;
        last = reads.body;
        taken = taken-more;
        mid = p;
        text = so_far.text;
        serves = so_far.serves;
        answer = text;
        lacks = subst (λ (s : Option (Result SessionLine LineFault)). Lacks site s p q text) (said-kept k reads.body reads.keeps) lacks;
        written = appends_then w v x so_far.text text so_far.written appends;
      }

      -- the last line's answer failed, for this reason
      pub until-answer : (e : EngineFault) → Breaks (IsBegun site (kept_said k) p q) (Lacks site (kept_said k) p q) e v x
          → ServesUntil site e left rest old q w x
      until-answer engine.Write breaks = served-part breaks.0 breaks.2.0 breaks.1 breaks.2.1
      until-answer engine.NoMemory breaks = served-unanswered breaks.0 breaks.1 breaks.2
      until-answer engine.Read breaks = absurd breaks
      until-answer engine.TooManyTurns breaks = absurd breaks

    module _ (Came : Type 0) (left mid : Option (List ℕ)) (old new : Seen M) (w v : Option (List ℕ)) (count bad : ℕ)
        (so_far : Served Came left mid old new w v count bad) where
      -- the end was reached
      pub Served-whole : (Heard : Type 0) (rest : Option (List ℕ)) → IsOver mid rest → (Came → Heard) → ServesWhole site Heard left rest old new w v count bad
      Served-whole Heard rest over end = record {
        lines = so_far.lines;
        all = taken-all left mid rest so_far.lines so_far.taken over;
        end = taken-drained left mid rest so_far.lines so_far.taken over;
        text = so_far.text;
        serves = so_far.serves;
        written = so_far.written;
        counted = so_far.counted;
        faulty = so_far.faulty;
        heard = λ last. end (so_far.heard last);
      }

      served-first : ServesFirst site left old new w v
      served-first = record {
        lines = so_far.lines;
        first = taken-first left mid so_far.lines so_far.taken;
        text = so_far.text;
        serves = so_far.serves;
        written = so_far.written;
      }

      -- no further line came, for this reason
      pub until-read : (e : ReadFault) (rest : Option (List ℕ)) → ServesUntil site (of_read e) left rest old new w v
      until-read read.Read rest = served-first
      until-read read.TooManyTurns rest = served-first

-- at the end of the lines, where no byte waited, the gate has heard that
pub ended-heard : (heard : ℕ → Type 0) (waiting session : ℕ) → waiting ≡ 0 → HasCome heard waiting session → heard session
ended-heard heard waiting session none (inl waits) = absurd (omega (arith, none, waits))
ended-heard heard waiting session none (inr end) = end
