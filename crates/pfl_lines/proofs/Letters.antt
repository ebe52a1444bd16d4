-- Letters of flags are read flag by flag.
use Rattle.std.proofs.Common.{◌≡◌, ◌<◌, ◌≤◌, ℕ, ◌+◌, Bool, true, false, List, [], ◌∷◌, length, drop, get_or, Ok, Err, refl, sym, ap, ◌∙◌, add-one, drop-cons}
use Rattle.std.specs.Prelude.{◌==◌, suc}
use Rattle.std.specs.List.{fold}
use Rattle.std.proofs.Common.{arith}
use Rattle.std.proofs.Math.ListN.{drop_of_length-le}
use Rattle.std.proofs.lemmas.Bool.{eqb-true}
use Rattle.pfl_lines.specs.declared.fault.LineFault.TheVariants.{Number}
use Rattle.pfl_lines.specs.Parts.{with_letter, flag_letters, unless_left, letters_of}

-- one letter more
pub letter_more : (letters : List (ℕ × ℕ)) (i : ℕ) (d : ℕ × ℕ) (read next : ℕ × List ℕ) → i < length letters →
    next ≡ with_letter read (get_or letters i d) → fold with_letter read (drop i letters) ≡ fold with_letter next (drop (i + 1) letters)
letter_more letters i d read next h e =
    ap (fold with_letter read) (drop-cons letters i d h)
    ∙ (ap (λ (r : ℕ × List ℕ). fold with_letter r (drop (suc i) letters)) (sym e) ∙ on) where
      on : fold with_letter next (drop (suc i) letters) ≡ fold with_letter next (drop (i + 1) letters)
      on = rw add-one refl

-- all letters
pub letters_whole : (word rest : List ℕ) (flags i : ℕ) → 6 ≤ i
    → fold with_letter (0, word) flag_letters ≡ fold with_letter (flags, rest) (drop i flag_letters) →
    letters_of word ≡ unless_left (flags, rest)
unfolding letters_of
letters_whole word rest flags i h read = ap unless_left (read ∙ ap (fold with_letter (flags, rest)) (drop_of_length-le flag_letters {i = i} h))

-- a list with an element is not empty
never : (n : ℕ) → (suc n == 0) ≡ true → ⊥
never n e = omega (arith, eqb-true (suc n) 0 e)

-- nothing is left
pub none_left : (flags : ℕ) (rest : List ℕ) (e : Bool) → e ≡ (length rest == 0) → e ≡ true → unless_left (flags, rest) ≡ Ok flags
none_left flags [] e h is = refl
none_left flags (b ∷ rest) e h is = absurd (never (length rest) (sym h ∙ is))

-- something is left
pub some_left : (flags : ℕ) (rest : List ℕ) (e : Bool) → e ≡ (length rest == 0) → e ≡ false → unless_left (flags, rest) ≡ Err Number
some_left flags [] e h is = cc
some_left flags (b ∷ rest) e h is = refl
