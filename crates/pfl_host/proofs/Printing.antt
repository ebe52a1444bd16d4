-- Texts that are written to a device one after another, until a call of it has failed.
use Rattle.std.proofs.Common.{◌≡◌, ℕ, ◌+◌, zero, suc, Bool, true, false, List, [], ◌∷◌, ◌++◌, length, take, refl, sym, ap, ◌∙◌, arith, append_assoc, subst, inl, inr, Option}
use Rattle.std.specs.Io.KnownBytes.{Appends, Keeps}
use Rattle.std.proofs.KnownBytes.{Appends-kept, Appends-nil, Appends-trans, Keeps-refl, Keeps-trans}
use Rattle.std.proofs.lemmas.Bool.{false≢true}
use Rattle.std.proofs.Math.Seq.{take-append-add, take-nil}
use Rattle.std.proofs.lemmas.List.{append-nil}
use Rattle.pfl_run.specs.Runs.{IsPrinted}
use Rattle.pfl_host.specs.Reports.{browser_lines, browser_text, NotesBrowsers, NotesIfOpen, PrintsOn}

-- a first part of the first text is one of both
first-part : (n : ℕ) (a b : List ℕ) → (m : ℕ) × (take m (a ++ b) ≡ take n a)
first-part n [] b = (0, sym (take-nil n))
first-part zero (x ∷ a) b = (0, refl)
first-part (suc n) (x ∷ a) b = let p = first-part n a b in (suc p.0, ap (λ xs. x ∷ xs) p.1)

-- nothing is written
pub prints_none : (w : Option (List ℕ)) (failed : Bool) → PrintsOn [] w w failed failed
prints_none w failed = record {
  spared = λ broken. (Keeps-refl w, broken);
  printed = λ sound. record { whole = λ _. Appends-nil w; part = (0, Appends-nil w) };
}

-- a text that was written whole or in part, and then nothing, since that failed
printed-spared : (a b : List ℕ) (w m v : Option (List ℕ)) → IsPrinted a w m true → Keeps m v → IsPrinted (a ++ b) w v true
printed-spared a b w m v first kept =
    let p = first-part first.part.0 a b in record {
      whole = λ no. absurd (false≢true (sym no));
      part = (p.0, rw p.1 (Appends-kept w m v (take first.part.0 a) first.part.1 kept));
    }

-- ... or another text
printed-printed : (a b : List ℕ) (w m v : Option (List ℕ)) (after : Bool) → IsPrinted a w m false → IsPrinted b m v after → IsPrinted (a ++ b) w v after
printed-printed a b w m v after first second = record {
  whole = λ sound. Appends-trans w m v a b (first.whole refl) (second.whole sound);
  part = (
    length a + second.part.0,
    rw (take-append-add a b second.part.0) (Appends-trans w m v a (take second.part.0 b) (first.whole refl) second.part.1),
  );
}

printed-then : (a b : List ℕ) (w m v : Option (List ℕ)) (mid after : Bool) → IsPrinted a w m mid → PrintsOn b m v mid after → IsPrinted (a ++ b) w v after
printed-then a b w m v true after first second =
    rw (second.spared refl).1 (printed-spared a b w m v first (second.spared refl).0)
printed-then a b w m v false after first second = printed-printed a b w m v after first (second.printed refl)

pub prints_then : (a b : List ℕ) (w m v : Option (List ℕ)) (before mid after : Bool) → PrintsOn a w m before mid → PrintsOn b m v mid after
    → PrintsOn (a ++ b) w v before after
prints_then a b w m v before mid after first second = record {
  spared = λ broken. let kept = first.spared broken in let still = second.spared kept.1 in (Keeps-trans w m v kept.0 still.0, still.1);
  printed = λ sound. printed-then a b w m v mid after (first.printed sound) second;
}

-- what was written is the text, whole or in part
pub prints_whole : (text : List ℕ) (w v : Option (List ℕ)) (before after : Bool) → PrintsOn text w v before after → IsPrinted text w v after
prints_whole text w v true after prints = record {
  whole = λ sound. absurd (false≢true (sym sound ∙ (prints.spared refl).1));
  part = (0, Appends-kept w w v [] (Appends-nil w) (prints.spared refl).0);
}
prints_whole text w v false after prints = prints.printed refl

-- lines of browsers, and then of others
pub lines_add : (m n : ℕ) → browser_lines m ++ browser_lines n ≡ browser_lines (m + n)
lines_add zero n = let same : n ≡ 0 + n = omega arith in ap browser_lines same
lines_add (suc m) n =
    let same : suc (m + n) ≡ suc m + n = omega arith in
    let next : browser_lines (suc (m + n)) ≡ browser_lines (suc m + n) = ap browser_lines same in
    append_assoc browser_text (browser_lines m) (browser_lines n) ∙ (ap (λ text. browser_text ++ text) (lines_add m n) ∙ next)

-- ... and one more
pub lines_more : (n : ℕ) → browser_lines n ++ browser_text ≡ browser_lines (n + 1)
lines_more n =
    let one : browser_lines 1 ≡ browser_text = append-nil browser_text in
    ap (λ text. browser_lines n ++ text) (sym one) ∙ lines_add n 1

pub lines_printed : (n : ℕ) (w m v : Option (List ℕ)) (a b c : Bool) → PrintsOn (browser_lines n) w m a b → PrintsOn browser_text m v b c
    → PrintsOn (browser_lines (n + 1)) w v a c
lines_printed n w m v a b c first second =
    subst (λ (text : List ℕ). PrintsOn text w v a c) (lines_more n) (prints_then (browser_lines n) browser_text w m v a b c first second)

-- no browser came
pub notes_none : (turned : ℕ) (w : Option (List ℕ)) (failed : Bool) → NotesBrowsers turned turned w w failed failed
notes_none turned w failed = record { more = 0; turned = omega arith; prints = prints_none w failed }

-- one more came
pub notes_more : (before mid after : ℕ) (w m v : Option (List ℕ)) (a b c : Bool) → NotesBrowsers before mid w m a b → after ≡ suc mid → PrintsOn browser_text m v b c
    → NotesBrowsers before after w v a c
notes_more before mid after w m v a b c notes next prints = record {
  more = notes.more + 1;
  turned = omega (arith, notes.turned, next);
  prints = lines_printed notes.more w m v a b c notes.prints prints;
}

-- some came, and then some more
pub notes_then : (before mid after : ℕ) (w m v : Option (List ℕ)) (a b c : Bool) → NotesBrowsers before mid w m a b → NotesBrowsers mid after m v b c
    → NotesBrowsers before after w v a c
notes_then before mid after w m v a b c first second = record {
  more = first.more + second.more;
  turned = omega (arith, first.turned, second.turned);
  prints = subst (λ (text : List ℕ). PrintsOn text w v a c) (lines_add first.more second.more)
      (prints_then (browser_lines first.more) (browser_lines second.more) w m v a b c first.prints second.prints);
}

-- since nobody had come before, all that came were reported
pub notes_all : (before after : ℕ) (w v : Option (List ℕ)) (a b : Bool) → before ≡ 0 → NotesBrowsers before after w v a b → PrintsOn (browser_lines after) w v a b
notes_all before after w v a b none notes =
    let same : notes.more ≡ after = omega (arith, none, notes.turned) in
    subst (λ (n : ℕ). PrintsOn (browser_lines n) w v a b) same notes.prints

-- nobody listened, and nothing was reported
pub notes_closed : (turned : ℕ) (w : Option (List ℕ)) (a : Bool) → NotesIfOpen turned w w a a
notes_closed turned w a = record { browsers = 0; all = inl refl; prints = prints_none w a }

-- all were reported
pub notes_open : (turned : ℕ) (w v : Option (List ℕ)) (a b : Bool) → PrintsOn (browser_lines turned) w v a b → NotesIfOpen turned w v a b
notes_open turned w v a b prints = record { browsers = turned; all = inr refl; prints = prints }
