-- A setup is read line by line.
use Rattle.std.proofs.Common.{◌≡◌, ℕ, ◌+◌, ◌<◌, ◌≤◌, Bool, true, false, List, [], ◌∷◌, ◌++◌, length, refl, sym, ◌∙◌, ap, subst, arith, length-append, inl, inr}
use Rattle.std.proofs.Common.{Option, Some, None, Ok, Err}
use Rattle.std.specs.Prelude.{◌&&◌, Result, IfOk, IfErr}
use Rattle.std.specs.List.{flat_map}
use Rattle.pfl_rules.specs.declared.fault.RuleFault.{RuleFault}
use Rattle.pfl_rules.specs.declared.fault.RuleFault.TheVariants as rule
use Rattle.pfl_rules.specs.declared.rule.Rule.{Rule}
use Rattle.pfl_rules.specs.Rules.{rule_fault}
use Rattle.std.specs.Option.{option_or}
use Rattle.std.proofs.lemmas.Bool.{lt-ltb, le-ltb, cases_lt}
use Rattle.std.proofs.lemmas.List.{flat_map_more, take_all}
use Rattle.std.proofs.lemmas.List.Folds.{list_all-append}
use Rattle.std.proofs.lemmas.List.Sums.{fold-append}
use Rattle.pfl_lines.specs.declared.fault.LineFault.{LineFault}
use Rattle.pfl_lines.specs.Setup.{parsed_setup}
use Rattle.pfl_lines.specs.declared.setup.SetupLine.TheVariants as setup
use Rattle.pfl_reader.specs.Scans.{Kept, Keeps, ReadsLine, TakesLines}
use Rattle.pfl_reader.specs.Saids.{kept_setup}
use Rattle.pfl_script.specs.declared.setup_fault.SetupFault.{SetupFault}
use Rattle.pfl_script.specs.declared.setup_fault.SetupFault.TheVariants as fault
use Rattle.pfl_script.specs.declared.setup_text.SetupText.{SetupText}
use Rattle.pfl_script.specs.declared.setup_text.SetupText.TheVariants as setup_text
use Rattle.pfl_reader.specs.Readers.{Source, IsReadFault}
use Rattle.pfl_reader.specs.declared.fault.ReadFault.{ReadFault}
use Rattle.pfl_reader.specs.declared.fault.ReadFault.TheVariants as read
use Rattle.pfl_script.specs.Readers.{setup_of_read}
use Rattle.pfl_script.specs.Setups.{says_rule, kept_line, longest_text, IsKeptText, IsSetupFault, IsTooLong, KeepsText}
use Rattle.pfl_script.specs.Setups.{Draft, nothing_set, said, kept_words, set_by_said}
use Rattle.pfl_script.specs.Setups.{goes_on, drafted, all_go_on, Opens, IsFaultyAt, WantsRule, GoOn, StopsAt}
use Rattle.pfl_script.specs.inner.Setups.{Grows, IsTakeFault, IsRuleStop, IsFinishStop, Takes}
use Rattle.pfl_script.proofs.Running.{taken-none, taken-line, taken-first}

-- lines were taken so far that set this
pub record Going (old new : Option (List ℕ)) (n : ℕ) (d : Draft) : Type 0 where
  pub lines : List (List ℕ)
  pub taken : TakesLines old new lines
  pub going : all_go_on lines ≡ true
  pub draft : d ≡ drafted lines
  pub number : n ≡ length lines

-- what is kept of a line says what the line says
setup-kept : (k : Kept) (body : List ℕ) → Keeps k body → kept_setup k ≡ parsed_setup body
unfolding parsed_setup
setup-kept k body h = elim (cases_lt 512 (length body)) [
  | inl long ↦ rw (h.long, lt-ltb 512 (length body) long) refl
  | inr short ↦ rw (h.long, le-ltb 512 (length body) short, h.bytes, take_all 512 body short, le-ltb 512 (length body) short) refl
]

words-kept : (k : Kept) (body : List ℕ) → Keeps k body → kept_words k ≡ said body
unfolding kept_words said
words-kept k body h = rw (h.head, setup-kept k body h) refl

both : (a b : Bool) → a ≡ true → b ≡ true → (a && b) ≡ true
both a b h i = rw (h, i) refl

go-push : (lines : List (List ℕ)) (line : List ℕ) → all_go_on lines ≡ true → goes_on (said line) ≡ true → all_go_on (lines ++ line ∷ []) ≡ true
unfolding all_go_on
go-push lines line h i = list_all-append (λ l. goes_on (said l)) lines (line ∷ []) ∙ both _ _ h (both _ _ i refl)

draft-push : (lines : List (List ℕ)) (line : List ℕ) → drafted (lines ++ line ∷ []) ≡ set_by_said (drafted lines) (said line)
unfolding drafted
draft-push lines line = fold-append (λ d l. set_by_said d (said l)) nothing_set lines (line ∷ [])

-- no line yet
pub Going-none : (old mid : Option (List ℕ)) → mid ≡ old → Going old mid 0 nothing_set
unfolding drafted all_go_on
Going-none old mid e = record {
  lines = [];
  taken = rw e (taken-none old);
  going = refl;
  draft = refl;
  number = refl;
}

-- one line more that sets something, or nothing
pub Going-more : (old mid new : Option (List ℕ)) (n : ℕ) (d e : Draft) (k : Kept) →
    Going old mid n d → ReadsLine k mid new → Takes false (kept_words k) d e → Going old new (n + 1) e
Going-more old mid new n d e k h reads takes =
    let words = words-kept k reads.body reads.keeps in
    record {
      lines = h.lines ++ reads.body ∷ [];
      taken = taken-line old mid new h.lines reads.body h.taken reads.takes;
      going = go-push h.lines reads.body h.going (sym (ap goes_on words) ∙ takes.0);
      draft = takes.1 ∙ (ap (set_by_said d) words ∙ (ap (λ (x : Draft). set_by_said x (said reads.body)) h.draft ∙ sym (draft-push h.lines reads.body)));
      number = omega (arith, h.number, length-append h.lines (reads.body ∷ []));
    }

-- the line that ends the setup
pub Going-open : (old mid new : Option (List ℕ)) (n : ℕ) (d e : Draft) (k : Kept) →
    Going old mid n d → ReadsLine k mid new → Takes true (kept_words k) d e → Opens old new (n + 1) e
Going-open old mid new n d e k h reads takes = record {
  before = h.lines;
  last = reads.body;
  taken = taken-line old mid new h.lines reads.body h.taken reads.takes;
  going = h.going;
  opened = sym (words-kept k reads.body reads.keeps) ∙ takes.0;
  draft = takes.1 ∙ h.draft;
  number = omega (arith, h.number);
}

-- a faulty line
pub Going-faulty : (old mid new : Option (List ℕ)) (n : ℕ) (d : Draft) (k : Kept) (why : LineFault) →
    Going old mid n d → ReadsLine k mid new → kept_words k ≡ Some (Err why) → IsFaultyAt old (n + 1) why
Going-faulty old mid new n d k why h reads faulty = record {
  before = h.lines;
  last = reads.body;
  first = taken-first old new (h.lines ++ reads.body ∷ []) (taken-line old mid new h.lines reads.body h.taken reads.takes);
  going = h.going;
  faulty = sym (words-kept k reads.body reads.keeps) ∙ faulty;
  number = omega (arith, h.number);
}

-- there is no memory for a rule
Going-short : (old mid new : Option (List ℕ)) (n : ℕ) (d : Draft) (k : Kept) →
    Going old mid n d → ReadsLine k mid new → says_rule (kept_words k) ≡ true → WantsRule old new (n + 1)
Going-short old mid new n d k h reads wants = record {
  before = h.lines;
  last = reads.body;
  taken = taken-line old mid new h.lines reads.body h.taken reads.takes;
  going = h.going;
  rule = sym (ap says_rule (words-kept k reads.body reads.keeps)) ∙ wants;
  number = omega (arith, h.number);
}

-- the lines so far go on with the setup
Going-first : (old mid : Option (List ℕ)) (n : ℕ) (d : Draft) → Going old mid n d → GoOn old n
Going-first old mid n d h = record {
  lines = h.lines;
  first = taken-first old mid h.lines h.taken;
  going = h.going;
  number = h.number;
}

-- a line that was not taken ends the setup
pub stops-taken : (old mid : Option (List ℕ)) (new : Source) (n : ℕ) (d : Draft) (k : Kept) (e : SetupFault) →
    Going old mid n d → ReadsLine k mid new.left → IsTakeFault e (n + 1) (kept_words k) → IsSetupFault e old new
stops-taken old mid new n d k (fault.Line m why) h reads stop =
    subst (λ (i : ℕ). IsFaultyAt old i why) (sym stop.0) (Going-faulty old mid new.left n d k why h reads stop.1)
stops-taken old mid new n d k (fault.Rule m why) h reads stop = absurd stop
stops-taken old mid new n d k (fault.NoOpen m) h reads stop = absurd stop
stops-taken old mid new n d k fault.Read h reads stop = absurd stop
stops-taken old mid new n d k fault.TooManyTurns h reads stop = absurd stop
stops-taken old mid new n d k fault.NoMemory h reads stop = (n + 1, inl (Going-short old mid new.left n d k h reads stop))

-- rules that are no rule sets end the setup
pub stops-finished : (old : Option (List ℕ)) (new : Source) (n : ℕ) (d : Draft) (e : SetupFault) →
    Opens old new.left n d → IsFinishStop e n d → IsSetupFault e old new
stops-finished old new n d (fault.Line m why) h stop = absurd stop
stops-finished old new n d (fault.Rule m why) h stop = record { draft = d; opens = subst (λ (i : ℕ). Opens old new.left i d) (sym stop.0) h; first = stop.1 }
stops-finished old new n d (fault.NoOpen m) h stop = absurd stop
stops-finished old new n d fault.Read h stop = absurd stop
stops-finished old new n d fault.TooManyTurns h stop = absurd stop
stops-finished old new n d fault.NoMemory h stop = (n, inr (record { draft = d; opens = h; faultless = stop }))

-- no line came
pub stops-read : (e : ReadFault) (old : Option (List ℕ)) (new : Source) → IsReadFault e new → IsSetupFault (setup_of_read e) old new
stops-read read.Read old new why = why
stops-read read.TooManyTurns old new why = why

-- this many lines were read where no line came
pub counts-read : (e : ReadFault) (old mid new : Option (List ℕ)) (n : ℕ) (d : Draft) → Going old mid n d → StopsAt (setup_of_read e) old new n
counts-read read.Read old mid new n d h = Going-first old mid n d h
counts-read read.TooManyTurns old mid new n d h = Going-first old mid n d h

-- this many lines were read where a line was not taken
pub counts-taken : (e : SetupFault) (old mid new : Option (List ℕ)) (n : ℕ) (d : Draft) (k : Kept) →
    Going old mid n d → ReadsLine k mid new → IsTakeFault e (n + 1) (kept_words k) → StopsAt e old new (n + 1)
counts-taken (fault.Line m why) old mid new n d k h reads stop = sym stop.0
counts-taken fault.NoMemory old mid new n d k h reads stop = inl (Going-short old mid new n d k h reads stop)
counts-taken (fault.Rule m why) old mid new n d k h reads stop = absurd stop
counts-taken (fault.NoOpen m) old mid new n d k h reads stop = absurd stop
counts-taken fault.Read old mid new n d k h reads stop = absurd stop
counts-taken fault.TooManyTurns old mid new n d k h reads stop = absurd stop

-- this many lines were read where rules are no rule sets
pub counts-finished : (e : SetupFault) (old new : Option (List ℕ)) (n : ℕ) (d : Draft) → Opens old new n d → IsFinishStop e n d → StopsAt e old new n
counts-finished (fault.Rule m why) old new n d h stop = sym stop.0
counts-finished fault.NoMemory old new n d h stop = inr (record { draft = d; opens = h; faultless = stop })
counts-finished (fault.Line m why) old new n d h stop = absurd stop
counts-finished (fault.NoOpen m) old new n d h stop = absurd stop
counts-finished fault.Read old new n d h stop = absurd stop
counts-finished fault.TooManyTurns old new n d h stop = absurd stop

-- node a's rules are no rule set
pub finish-a : (e : SetupFault) (n : ℕ) (d : Draft) → IsRuleStop e n (rule_fault d.a) → IsFinishStop e n d
finish-a (fault.Rule m why) n d stop = (stop.0, ap (λ (o : Option RuleFault). option_or o (rule_fault d.b)) stop.1)
finish-a fault.NoMemory n d stop = stop
finish-a (fault.Line m why) n d stop = absurd stop
finish-a (fault.NoOpen m) n d stop = absurd stop
finish-a fault.Read n d stop = absurd stop
finish-a fault.TooManyTurns n d stop = absurd stop

-- node b's rules are no rule set
pub finish-b : (e : SetupFault) (n : ℕ) (d : Draft) → rule_fault d.a ≡ None → IsRuleStop e n (rule_fault d.b) → IsFinishStop e n d
finish-b (fault.Rule m why) n d none stop = (stop.0, ap (λ (o : Option RuleFault). option_or o (rule_fault d.b)) none ∙ stop.1)
finish-b fault.NoMemory n d none stop = none
finish-b (fault.Line m why) n d none stop = absurd stop
finish-b (fault.NoOpen m) n d none stop = absurd stop
finish-b fault.Read n d none stop = absurd stop
finish-b fault.TooManyTurns n d none stop = absurd stop

-- ---- the text of the lines

-- the text of lines that were taken so far
pub record Texted (old new : Option (List ℕ)) (text : List ℕ) : Type 0 where
  pub lines : List (List ℕ)
  pub taken : TakesLines old new lines
  pub whole : text ≡ flat_map kept_line lines

-- one line more
text-push : (lines : List (List ℕ)) (k : Kept) (body before text : List ℕ) → Keeps k body → before ≡ flat_map kept_line lines →
    text ≡ before ++ (k.bytes ++ 10 ∷ []) → text ≡ flat_map kept_line (lines ++ body ∷ [])
text-push lines k body before text keeps whole is =
    is
    ∙ ap (λ (bytes : List ℕ). before ++ (bytes ++ 10 ∷ [])) keeps.bytes
    ∙ ap (λ (t : List ℕ). t ++ kept_line body) whole
    ∙ flat_map_more kept_line [] lines body

Texted-more : (old mid new : Option (List ℕ)) (k : Kept) (before text : List ℕ) → Texted old mid before → ReadsLine k mid new →
    text ≡ before ++ (k.bytes ++ 10 ∷ []) → Texted old new text
Texted-more old mid new k before text h reads is = record {
  lines = h.lines ++ reads.body ∷ [];
  taken = taken-line old mid new h.lines reads.body h.taken reads.takes;
  whole = text-push h.lines k reads.body before text reads.keeps h.whole is;
}

Texted-open : (old mid new : Option (List ℕ)) (k : Kept) (before text : List ℕ) → Texted old mid before → ReadsLine k mid new →
    length before ≤ longest_text → text ≡ before ++ (k.bytes ++ 10 ∷ []) → kept_words k ≡ Some (Ok setup.Open) → KeepsText old new text
Texted-open old mid new k before text h reads short is opens = record {
  lines = record {
    before = h.lines;
    last = reads.body;
    taken = taken-line old mid new h.lines reads.body h.taken reads.takes;
    opened = sym (words-kept k reads.body reads.keeps) ∙ opens;
    whole = text-push h.lines k reads.body before text reads.keeps h.whole is;
  };
  short = subst (λ (bytes : List ℕ). length bytes ≤ longest_text) h.whole short;
}

-- lines were taken so far that are too long
pub record LongSo (old new : Option (List ℕ)) : Type 0 where
  pub lines : List (List ℕ)
  pub taken : TakesLines old new lines
  pub long : longest_text < length (flat_map kept_line lines)

-- so are they with one line more
long-push : (lines : List (List ℕ)) (line : List ℕ) → longest_text < length (flat_map kept_line lines) →
    longest_text < length (flat_map kept_line (lines ++ line ∷ []))
long-push lines line h =
    let more : flat_map kept_line lines ++ kept_line line ≡ flat_map kept_line (lines ++ line ∷ []) = flat_map_more kept_line [] lines line in
    subst (λ (bytes : List ℕ). longest_text < length bytes) more
    (omega (arith, h, length-append (flat_map kept_line lines) (kept_line line)))

LongSo-more : (old mid new : Option (List ℕ)) (k : Kept) → LongSo old mid → ReadsLine k mid new → LongSo old new
LongSo-more old mid new k h reads = record {
  lines = h.lines ++ reads.body ∷ [];
  taken = taken-line old mid new h.lines reads.body h.taken reads.takes;
  long = long-push h.lines reads.body h.long;
}

LongSo-open : (old mid new : Option (List ℕ)) (k : Kept) → LongSo old mid → ReadsLine k mid new →
    kept_words k ≡ Some (Ok setup.Open) → IsTooLong old new
LongSo-open old mid new k h reads opens = record {
  before = h.lines;
  last = reads.body;
  taken = taken-line old mid new h.lines reads.body h.taken reads.takes;
  opened = sym (words-kept k reads.body reads.keeps) ∙ opens;
  long = h.long;
}

-- the text of lines that is too long
LongSo-texted : (old new : Option (List ℕ)) (text : List ℕ) → Texted old new text → longest_text < length text → LongSo old new
LongSo-texted old new text h long = record {
  lines = h.lines;
  taken = h.taken;
  long = subst (λ (bytes : List ℕ). longest_text < length bytes) h.whole long;
}

-- what is kept of the lines that were taken so far
abbrev pub KeptSo : {M : Type 0} → Option (List ℕ) → Option (List ℕ) → SetupText M → Type 0
KeptSo old new (setup_text.Kept bytes) = Texted old new bytes.items
KeptSo old new setup_text.TooLong = LongSo old new
KeptSo old new setup_text.NoMemory = Unit {0}

-- no line yet
pub Text-none : (old mid : Option (List ℕ)) (text : List ℕ) → mid ≡ old → text ≡ [] → Texted old mid text
Text-none old mid text e none = record { lines = []; taken = rw e (taken-none old); whole = none }

-- the line that was shown is what is kept
with-bytes : (text before : List ℕ) (k : Kept) (line : List ℕ) → line ≡ k.bytes → text ≡ before ++ (line ++ 10 ∷ []) → text ≡ before ++ (k.bytes ++ 10 ∷ [])
with-bytes text before k line same is = is ∙ ap (λ (bytes : List ℕ). before ++ (bytes ++ 10 ∷ [])) same

-- one line more, until they are too long, and as long as there is memory
pub Text-more : {M : Type 0} (t u : SetupText M) (old mid new : Option (List ℕ)) (k : Kept) (line : List ℕ) → line ≡ k.bytes →
    KeptSo old mid t → ReadsLine k mid new → Grows t u (line ++ 10 ∷ []) → KeptSo old new u
Text-more t setup_text.NoMemory old mid new k line is h reads grows = tt
Text-more (setup_text.Kept w) (setup_text.Kept v) old mid new k line is h reads grows =
    Texted-more old mid new k w.items v.items h reads (with-bytes _ _ k line is grows.1)
Text-more (setup_text.Kept w) setup_text.TooLong old mid new k line is h reads grows = LongSo-more old mid new k (LongSo-texted old mid w.items h grows) reads
Text-more setup_text.TooLong (setup_text.Kept v) old mid new k line is h reads grows = absurd grows
Text-more setup_text.TooLong setup_text.TooLong old mid new k line is h reads grows = LongSo-more old mid new k h reads
Text-more setup_text.NoMemory (setup_text.Kept v) old mid new k line is h reads grows = absurd grows
Text-more setup_text.NoMemory setup_text.TooLong old mid new k line is h reads grows = absurd grows

-- the line that ends the setup
pub Text-open : {M : Type 0} (t u : SetupText M) (old mid new : Option (List ℕ)) (k : Kept) (line : List ℕ) → line ≡ k.bytes →
    KeptSo old mid t → ReadsLine k mid new → Grows t u (line ++ 10 ∷ []) → kept_words k ≡ Some (Ok setup.Open) → IsKeptText old new u
Text-open t setup_text.NoMemory old mid new k line is h reads grows opens = tt
Text-open (setup_text.Kept w) (setup_text.Kept v) old mid new k line is h reads grows opens =
    Texted-open old mid new k w.items v.items h reads grows.0 (with-bytes _ _ k line is grows.1) opens
Text-open (setup_text.Kept w) setup_text.TooLong old mid new k line is h reads grows opens =
    LongSo-open old mid new k (LongSo-texted old mid w.items h grows) reads opens
Text-open setup_text.TooLong (setup_text.Kept v) old mid new k line is h reads grows opens = absurd grows
Text-open setup_text.TooLong setup_text.TooLong old mid new k line is h reads grows opens = LongSo-open old mid new k h reads opens
Text-open setup_text.NoMemory (setup_text.Kept v) old mid new k line is h reads grows opens = absurd grows
Text-open setup_text.NoMemory setup_text.TooLong old mid new k line is h reads grows opens = absurd grows

-- what is true of each good value
pub on-ok : {X E : Type 0} {P Q : X → Type 0} (r : Result X E) → ((x : X) → P x → Q x) → IfOk r P → IfOk r Q
on-ok (Ok x) f h = f x h
on-ok (Err e) f h = h

-- what is true of each fault
pub on-err : {X E : Type 0} {P Q : E → Type 0} (r : Result X E) → ((e : E) → P e → Q e) → IfErr r P → IfErr r Q
on-err (Ok x) f h = h
on-err (Err e) f h = f e h
