-- Lists of revisions, where they stand among the words, and the views of all seats.
use Rattle.std.proofs.Common.{◌≡◌, ℕ, zero, suc, ◌+◌, ◌*◌, ◌%◌, ◌<◌, ◌≤◌, ◌≢◌, ◌⊎◌, List, [], ◌∷◌, ◌++◌, length, take, set, refl, sym, ap, ◌∙◌, inl}
use Rattle.std.proofs.Common.{inr, ⊎_elim, subst, arith, length-take}
use Rattle.std.proofs.lemmas.List.{take-append-le, take_all}
use mathlib.Core.Option.{some, some-injective, some-ne-none}
use lib.ListN.{get_elem?}
use Rattle.atomic_table.proofs.Lists.{at_set, one_turn}
use Rattle.pfl_publish.specs.declared.view.Published.{Published}
use Rattle.pfl_publish.specs.Revisions.{Log, word_index, words_at, StartsWith}

-- four revisions in a row have no word in common
pub word_index_apart : (n m i k : ℕ) → i < 8 → k < 8 → n ≤ m → m < n + 4 → n ≢ m → word_index n i ≢ word_index m k
word_index_apart n m i k hi hk le lt ne e =
    let a : ℕ = n % 4 in let b : ℕ = m % 4 in let e' : 8 * a + i + 1 ≡ 8 * b + k + 1 = e in let same : a ≡ b = omega arith in
    ne (one_turn n m 4 le lt same)

-- two words of one revision stand apart
pub word_index_apart_words : (n i k : ℕ) → i ≢ k → word_index n i ≢ word_index n k
word_index_apart_words n i k ne e = let a : ℕ = n % 4 in let e' : 8 * a + i + 1 ≡ 8 * a + k + 1 = e in ne (omega arith)

-- each word of a revision is one of the 33
pub word_index_within : (n i : ℕ) → i < 8 → word_index n i < 33
word_index_within n i h = omega arith

module _ {A : Type 0} where
  -- the view of a seat after a new one came
  pub at_end : (l : List A) (a b : A) (j : ℕ) → get_elem? (l ++ a ∷ []) j ≡ some b → (get_elem? l j ≡ some b) ⊎ ((j ≡ length l) × (a ≡ b))
  at_end [] a b zero e = inr (refl, some-injective a b e)
  at_end [] a b (suc j) e = absurd (some-ne-none b (sym e))
  at_end (x ∷ xs) a b zero e = inl e
  at_end (x ∷ xs) a b (suc j) e = ⊎_elim inl (λ t. inr (ap suc t.0, t.1)) (at_end xs a b j e)

  -- the beginning of a longer beginning
  take_within : (n m : ℕ) (l : List A) → n ≤ m → take n (take m l) ≡ take n l
  take_within zero m l h = refl
  take_within (suc n) zero l h = absurd (omega arith)
  take_within (suc n) (suc m) [] h = refl
  take_within (suc n) (suc m) (x ∷ xs) h = ap (λ (t : List A). x ∷ t) (take_within n m xs (omega arith))

  -- a fact of each seat lasts where it holds of the seat that moves, and of each other seat
  pub each_set : (K : ℕ → A → Type 0) (vs : List A) (me : ℕ) (w : A) → K me w
      → ((j : ℕ) (d : A) → j ≢ me → get_elem? vs j ≡ some d → K j d) → (j : ℕ) (d : A) → get_elem? (set vs me w) j ≡ some d → K j d
  each_set K vs me w mine others j d e = ⊎_elim (λ (t : (j ≡ me) × (w ≡ d)). let P : ℕ × A → Type 0 = λ x. K x.0 x.1 in subst P (λ i. (sym t.0 i, t.1 i)) mine)
      (λ (t : (j ≢ me) × (get_elem? vs j ≡ some d)). others j d t.0 t.1) (at_set vs me j w d e)

module _ {H : Type 0} where
  -- a revision keeps its words when others are published
  pub words_at-append : (n : ℕ) (xs ys : Log H) → n < length xs → words_at n (xs ++ ys) ≡ words_at n xs
  words_at-append n [] ys h = absurd (omega arith)
  words_at-append zero (x ∷ xs) ys h = refl
  words_at-append (suc n) (x ∷ xs) ys h = words_at-append n xs ys (omega arith)

  -- the words of the revision that was published last
  pub words_at-last : (n : ℕ) (xs : Log H) (x : Published H) → n ≡ length xs → words_at n (xs ++ x ∷ []) ≡ x.words
  words_at-last zero [] x e = refl
  words_at-last (suc n) [] x e = absurd (omega arith)
  words_at-last zero (y ∷ xs) x e = absurd (omega arith)
  words_at-last (suc n) (y ∷ xs) x e = words_at-last n xs x (omega arith)

  -- a beginning of a list is no longer than the list
  pub begun_length : (list seen : Log H) → StartsWith list seen → length seen ≤ length list
  begun_length list seen h = omega (arith, ap (λ (l : Log H). length l) h, length-take (length seen) list)

  -- a beginning of a list begins each longer one
  pub begun_append : (list more seen : Log H) → StartsWith list seen → StartsWith (list ++ more) seen
  begun_append list more seen h = take-append-le (length seen) list more (begun_length list seen h) ∙ h

  -- a list begins itself
  pub begun_all : (list : Log H) → StartsWith list list
  begun_all list = take_all (length list) list (omega arith)

  -- a beginning of a beginning is one
  pub begun_since : (list middle seen : Log H) → StartsWith list middle → StartsWith middle seen → StartsWith list seen
  begun_since list middle seen p q = sym (take_within (length seen) (length middle) list (begun_length middle seen q)) ∙ (ap (take (length seen)) p ∙ q)
