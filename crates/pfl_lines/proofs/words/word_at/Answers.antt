use Rattle.std.proofs.Common.{◌≡◌, ◌-◌, Bool, true, List, [], ◌∷◌, ℕ, ◌⊎◌, inl, inr, length, take, drop, refl, sym, ap, subst, arith, length-drop, Ok}
use Rattle.std.proofs.lemmas.List.{take_all}
use Rattle.pfl_lines.specs.Words.{words, begins_word}
use Rattle.pfl_lines.specs.inner.Words.{front, behind}
use Rattle.pfl_lines.specs.Readings.{word_at}
use Rattle.pfl_lines.proofs.Fronts.{words_first}
use Rattle.pfl_lines.proofs.words.word_at.Goals as goal

-- the first word of a line whose leading blanks were skipped
first : (line rest : List ℕ) (n : ℕ) → words rest ≡ words line → begins_word rest ≡ true → front rest ≡ take n rest → behind rest ≡ drop n rest →
    word_at (words line) ≡ Ok (take n rest, words (take (length rest - n) (drop n rest)))
first line rest n same begins f b =
    let whole : take (length rest - n) (drop n rest) ≡ drop n rest = take_all _ _ (omega (arith, length-drop n rest)) in
    rw (← same, words_first rest begins, f, b, whole) refl

-- a line that is not empty is not the empty one
not_empty : (rest : List ℕ) (e : Bool) → rest ≡ [] → e ≡ Rattle.std.specs.Bool.◌==◌ (length rest) 0 → e ≡ Rattle.std.proofs.Common.false → ⊥
not_empty [] e h i j = cc
not_empty (b ∷ rest) e h i j = cc

pub returns : goal.returns
returns c = elim c.skip_blanks-line.ensures.begins [
  | inl h ↦ first c.args.line.now c.skip_blanks-line.result.now c.word_len-end.result c.skip_blanks-line.ensures.words h
      c.word_len-end.ensures.front c.word_len-end.ensures.behind
  | inr h ↦ absurd (not_empty c.skip_blanks-line.result.now c.is_empty.result h c.is_empty.ensures c.if-is_empty.false)
]
