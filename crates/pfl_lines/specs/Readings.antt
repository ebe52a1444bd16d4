-- What is read from the words of a line: a value and the words after it, or the first fault from the left.
use Rattle.std.specs.Prelude.{ℕ, List, [], ◌∷◌, Option, Result, Ok, Err}
use Rattle.std.specs.Option.{ok_or}
use Rattle.pfl_lines.specs.declared.fault.LineFault.{LineFault}
use Rattle.pfl_lines.specs.declared.fault.LineFault.TheVariants.{Missing, Number}

infixl 10 ◌>>=◌
-- one reading after another
abbrev pub ◌>>=◌ : {X Y : Type 0} → Result X LineFault → (X → Result Y LineFault) → Result Y LineFault
(Ok x) >>= f = f x
(Err e) >>= f = Err e

-- a value, and the words after it
abbrev pub Reading : Type 0 → Type 0
Reading X = Result (X × List (List ℕ)) LineFault

-- a word that is wanted, and the words after it
abbrev pub word_at : List (List ℕ) → Reading (List ℕ)
word_at [] = Err Missing
word_at (word ∷ ws) = Ok (word, ws)

-- what one word says
abbrev pub one_word : {X : Type 0} → (List ℕ → Result X LineFault) → List (List ℕ) → Reading X
one_word said ws = do
  word ← word_at ws
  x ← said word.0
  Ok (x, word.1)

-- one of some words; another is not of its form
abbrev pub choice_at : {X : Type 0} → (List ℕ → Option X) → List (List ℕ) → Reading X
choice_at at_word ws = one_word (λ word. ok_or (at_word word) Number) ws
