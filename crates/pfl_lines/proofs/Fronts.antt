-- The first word of a line.
use Rattle.std.proofs.Common.{◌≡◌, ℕ, Bool, true, false, List, [], ◌∷◌, refl, ◌∙◌, ap, cond}
use Rattle.std.specs.Prelude.{not}
use Rattle.pfl_lines.specs.Words.{words, is_blank, begins_word, with_first}
use Rattle.pfl_lines.specs.inner.Words.{front, behind}

-- a choice by a test that holds
chosen : {X : Type 0} (b : Bool) (x y : X) → b ≡ true → cond b x y ≡ x
chosen true x y e = refl
chosen false x y e = cc

not-true : (b : Bool) → not b ≡ true → b ≡ false
not-true true e = cc
not-true false e = refl

-- the word ends before a blank, and goes on before another byte
next : (b c : ℕ) (bytes : List ℕ) (blank : Bool) → is_blank b ≡ false → is_blank c ≡ blank →
    (not (is_blank c) ≡ true → words (c ∷ bytes) ≡ front (c ∷ bytes) ∷ words (behind (c ∷ bytes))) →
    words (b ∷ c ∷ bytes) ≡ front (b ∷ c ∷ bytes) ∷ words (behind (b ∷ c ∷ bytes))
next b c bytes true e f rest = rw (e, f, f) refl
next b c bytes false e f rest =
    let on : not (is_blank c) ≡ true = ap not f in
    rw e (chosen (not (is_blank c)) (with_first b (words (c ∷ bytes))) ((b ∷ []) ∷ words (c ∷ bytes)) on ∙ ap (with_first b) (rest on))

-- a line that begins with a word is that word and the words after it
pub words_first : (line : List ℕ) → begins_word line ≡ true → words line ≡ front line ∷ words (behind line)
words_first [] h = cc
words_first (b ∷ []) h = let e : is_blank b ≡ false = not-true (is_blank b) h in rw e refl
words_first (b ∷ c ∷ bytes) h = next b c bytes (is_blank c) (not-true (is_blank b) h) refl (λ on. words_first (c ∷ bytes) on)
