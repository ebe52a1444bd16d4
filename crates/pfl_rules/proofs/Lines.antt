-- How the text of a rule is put together.
use Rattle.std.proofs.Common.{◌≡◌, ℕ, ◌+◌, ◌<◌, ◌≤◌, true, false, Bool, Option, Some, None, List, [], ◌∷◌, ◌++◌, length, take, get_or, if◌then◌else◌}
use Rattle.std.proofs.Common.{refl, sym, ◌∙◌, ap, append_assoc, append-nil, arith}
use Rattle.std.specs.Prelude.{codes}
use Rattle.std.specs.List.{flat_map, join_with_byte, zip}
use Rattle.std.proofs.lemmas.List.{take_all, take_more, flat_map_more}
use Rattle.std.proofs.lemmas.Slice.Zip.{get_or-zip, length-zip}
use Rattle.std.proofs.lemmas.Grind.{flat_map-append}
use Rattle.pfl_base.specs.declared.class.Class.{Class}
use Rattle.pfl_base.specs.Classes.{classes}
use Rattle.pfl_rules.specs.inner.Parts.{spaced}
use Rattle.pfl_rules.specs.Parts.{timeout_text, timeouts_text}
use Rattle.pfl_rules.specs.Texts.{timeout_words}

-- one element more
pub text_more : {X : Type 0} (text : X → List ℕ) (xs : List X) (i : ℕ) (x d : X) → x ≡ get_or xs i d → i < length xs
    → flat_map text (take i xs) ++ text x ≡ flat_map text (take (i + 1) xs)
text_more text xs i x d here within =
    flat_map_more text [] (take i xs) x ∙ ap (flat_map text) (ap (λ y. take i xs ++ y ∷ []) here ∙ sym (take_more xs i d within))

-- the timeout of one class more
module _ (ts : List (Option ℕ)) (i : ℕ) where
  pub class_more : (class : Class) → i < 14 → i < length ts → class ≡ get_or classes i class
      → flat_map (λ t. timeout_text t.0 t.1) (take i (zip classes ts)) ++ timeout_text class (get_or ts i None)
      ≡ flat_map (λ t. timeout_text t.0 t.1) (take (i + 1) (zip classes ts))
  class_more class low within is =
      let pair : get_or (zip classes ts) i (class, None) ≡ (get_or classes i class, get_or ts i None) = get_or-zip classes ts i (class, None) low within in
      text_more (λ t. timeout_text t.0 t.1) (zip classes ts) i (class, get_or ts i None) (class, None)
      (ap (λ k. (k, get_or ts i None)) is ∙ sym pair)
      (omega (arith, length-zip classes ts))

  pub class_none : 14 ≤ i → flat_map (λ t. timeout_text t.0 t.1) (take i (zip classes ts))
      ≡ flat_map (λ t. timeout_text t.0 t.1) (take (i + 1) (zip classes ts))
  class_none high =
      ap (flat_map (λ t. timeout_text t.0 t.1))
      (take_all i (zip classes ts) (omega (arith, length-zip classes ts)) ∙ sym (take_all (i + 1) (zip classes ts) (omega (arith, length-zip classes ts))))

  pub class_end : length ts ≤ i → flat_map (λ t. timeout_text t.0 t.1) (take i (zip classes ts)) ≡ timeouts_text ts
  class_end ended = ap (flat_map (λ t. timeout_text t.0 t.1)) (take_all i (zip classes ts) (omega (arith, length-zip classes ts)))

-- words that are joined by a space each come after one, but for the first
joined : (word : List ℕ) (words : List (List ℕ)) → join_with_byte 32 (word ∷ words) ≡ word ++ spaced words
joined word [] = sym (append-nil word)
joined word (next ∷ words) = ap (λ rest. word ++ 32 ∷ rest) (joined next words)

-- words that are said only if a flag is set
pub marked : (b : Bool) (words : List (List ℕ)) → (if b then spaced words else []) ≡ spaced (if b then words else [])
marked true words = refl
marked false words = refl

timeout_spaced : (class : Class) (seconds : Option ℕ) → timeout_text class seconds ≡ spaced (timeout_words (class, seconds))
timeout_spaced class None = refl
timeout_spaced class (Some seconds) = simp (append_assoc, append-nil) refl

pub timeouts_spaced : (ts : List (Class × Option ℕ)) → flat_map (λ t. timeout_text t.0 t.1) ts ≡ spaced (flat_map timeout_words ts)
timeouts_spaced [] = refl
timeouts_spaced ((class, seconds) ∷ ts) =
    rw (timeout_spaced class seconds, timeouts_spaced ts)
    (sym (flat_map-append (λ word. codes " " ++ word) (timeout_words (class, seconds)) (flat_map timeout_words ts)))

-- a line whose words from the third on stand in groups, each group printed by itself
pub line_of : (a d : List ℕ) (w1 w2 w3 w4 w5 w6 w7 w8 w9 w10 w11 w12 : List (List ℕ)) (t1 t2 t3 t4 t5 t6 t7 t8 t9 t10 t11 t12 : List ℕ)
    → t1 ≡ spaced w1 → t2 ≡ spaced w2 → t3 ≡ spaced w3 → t4 ≡ spaced w4 → t5 ≡ spaced w5 → t6 ≡ spaced w6 → t7 ≡ spaced w7 → t8 ≡ spaced w8
    → t9 ≡ spaced w9 → t10 ≡ spaced w10 → t11 ≡ spaced w11 → t12 ≡ spaced w12
    → a ++ (codes " " ++ (d ++ (t1 ++ (t2 ++ (t3 ++ (t4 ++ (t5 ++ (t6 ++ (t7 ++ (t8 ++ (t9 ++ (t10 ++ (t11 ++ t12)))))))))))))
    ≡ join_with_byte 32 (a ∷ d ∷ [] ++ w1 ++ w2 ++ w3 ++ w4 ++ w5 ++ w6 ++ w7 ++ w8 ++ w9 ++ w10 ++ w11 ++ w12)
line_of a d w1 w2 w3 w4 w5 w6 w7 w8 w9 w10 w11 w12 t1 t2 t3 t4 t5 t6 t7 t8 t9 t10 t11 t12 e1 e2 e3 e4 e5 e6 e7 e8 e9 e10 e11 e12 =
    let split : spaced (w1 ++ w2 ++ w3 ++ w4 ++ w5 ++ w6 ++ w7 ++ w8 ++ w9 ++ w10 ++ w11 ++ w12) ≡ spaced w1
    ++ (spaced w2 ++ (spaced w3
    ++ (spaced w4 ++ (spaced w5 ++ (spaced w6 ++ (spaced w7 ++ (spaced w8 ++ (spaced w9 ++ (spaced w10 ++ (spaced w11 ++ spaced w12))))))))))
    = simp (flat_map-append, append_assoc) refl in
    rw (e1, e2, e3, e4, e5, e6, e7, e8, e9, e10, e11, e12)
    (sym (joined a (d ∷ [] ++ w1 ++ w2 ++ w3 ++ w4 ++ w5 ++ w6 ++ w7 ++ w8 ++ w9 ++ w10 ++ w11 ++ w12) ∙ ap (λ rest. a ++ 32 ∷ (d ++ rest)) split))
