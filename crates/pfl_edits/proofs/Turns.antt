-- A tape whose newest edit is put onto its stack, or taken off.
use Rattle.std.proofs.Common.{◌≡◌, suc, ◌+◌, List, [], ◌∷◌, ◌++◌, Bool, true, false, not, cond, Option, Some, option_to_list, length, refl, ap}
use Rattle.std.proofs.Common.{sym, subst, ◌∙◌, arith, length-append, append-nil}
use Rattle.std.specs.List.{count_by}
use Rattle.std.proofs.lemmas.List.Sums.{sum_by-cons, sum_by_push}
use Rattle.pfl_edits.specs.inner.Tapes.{all_edits, HaveTurns}

first_counted : (p : Bool → Bool) (b : Bool) (bs : List Bool) → count_by p (b ∷ bs) ≡ cond (p b) 1 0 + count_by p bs
first_counted p b bs = sum_by-cons (λ x. cond (p x) 1 0) b bs

last_counted : (p : Bool → Bool) (b : Bool) (bs : List Bool) → count_by p (bs ++ b ∷ []) ≡ count_by p bs + cond (p b) 1 0
last_counted p b bs = sum_by_push (λ x. cond (p x) 1 0) bs b

-- each turn is one of a small edit, or of a larger one
pub marked_or_not : (turns : List Bool) → count_by (λ is_small. is_small) turns + count_by not turns ≡ length turns
marked_or_not [] = refl
marked_or_not (true ∷ turns) = omega (arith, first_counted (λ is_small. is_small) true turns, first_counted not true turns, marked_or_not turns)
marked_or_not (false ∷ turns) = omega (arith, first_counted (λ is_small. is_small) false turns, first_counted not false turns, marked_or_not turns)

module _ {S E : Type 0} where
  -- the turns after the first
  behind_small : (turns : List Bool) (s : S) (small : List S) (large : List E) → HaveTurns (true ∷ turns) (s ∷ small) large → HaveTurns turns small large
  behind_small turns s small large h =
      let one = first_counted (λ b. b) true turns in
      let none = first_counted not true turns in
      record { of_small = omega (arith, h.of_small); of_large = omega (arith, h.of_large) }

  behind_large : (turns : List Bool) (small : List S) (e : E) (large : List E) → HaveTurns (false ∷ turns) small (e ∷ large) → HaveTurns turns small large
  behind_large turns small e large h =
      let none = first_counted (λ b. b) false turns in
      let one = first_counted not false turns in
      record { of_small = omega (arith, h.of_small); of_large = omega (arith, h.of_large) }

  -- there are as many edits as turns
  pub length-all_edits : (whole : S → E) (turns : List Bool) (small : List S) (large : List E) → HaveTurns turns small large
      → length (all_edits whole turns small large) ≡ length turns
  length-all_edits whole [] small large h = refl
  length-all_edits whole (true ∷ turns) [] large h =
      let one = first_counted (λ b. b) true turns in
      absurd (omega (arith, h.of_small))
  length-all_edits whole (true ∷ turns) (s ∷ small) large h = ap suc (length-all_edits whole turns small large (behind_small turns s small large h))
  length-all_edits whole (false ∷ turns) small [] h =
      let one = first_counted not false turns in
      absurd (omega (arith, h.of_large))
  length-all_edits whole (false ∷ turns) small (e ∷ large) h = ap suc (length-all_edits whole turns small large (behind_large turns small e large h))

  -- the edits of later turns come after those of earlier ones
  pub all_edits-append : (whole : S → E) (turns : List Bool) (small : List S) (large : List E) (later : List Bool) (ss : List S)
      (es : List E) → HaveTurns turns small large
      → all_edits whole (turns ++ later) (small ++ ss) (large ++ es) ≡ all_edits whole turns small large ++ all_edits whole later ss es
  all_edits-append whole [] [] [] later ss es h = refl
  all_edits-append whole [] (s ∷ small) large later ss es h = absurd (omega (arith, h.of_small))
  all_edits-append whole [] [] (e ∷ large) later ss es h = absurd (omega (arith, h.of_large))
  all_edits-append whole (true ∷ turns) [] large later ss es h =
      let one = first_counted (λ b. b) true turns in
      absurd (omega (arith, h.of_small))
  all_edits-append whole (true ∷ turns) (s ∷ small) large later ss es h =
      ap (λ (xs : List E). whole s ∷ xs) (all_edits-append whole turns small large later ss es (behind_small turns s small large h))
  all_edits-append whole (false ∷ turns) small [] later ss es h =
      let one = first_counted not false turns in
      absurd (omega (arith, h.of_large))
  all_edits-append whole (false ∷ turns) small (e ∷ large) later ss es h =
      ap (λ (xs : List E). e ∷ xs) (all_edits-append whole turns small large later ss es (behind_large turns small e large h))

  module _ (whole : S → E) (turns : List Bool) (small : List S) (large : List E) (h : HaveTurns turns small large) where
    -- a small edit as the newest
    pub HaveTurns-small : (s : S) → HaveTurns (turns ++ true ∷ []) (small ++ s ∷ []) large
    HaveTurns-small s =
        let one = last_counted (λ b. b) true turns in
        let none = last_counted not true turns in
        record { of_small = omega (arith, h.of_small, length-append small (s ∷ [])); of_large = omega (arith, h.of_large) }

    pub all_edits-small : (s : S) → all_edits whole (turns ++ true ∷ []) (small ++ s ∷ []) large ≡ all_edits whole turns small large ++ whole s ∷ []
    all_edits-small s = ap (λ (es : List E). all_edits whole (turns ++ true ∷ []) (small ++ s ∷ []) es) (sym (append-nil large))
        ∙ all_edits-append whole turns small large (true ∷ []) (s ∷ []) [] h

    -- a large one
    pub HaveTurns-large : (e : E) → HaveTurns (turns ++ false ∷ []) small (large ++ e ∷ [])
    HaveTurns-large e =
        let none = last_counted (λ b. b) false turns in
        let one = last_counted not false turns in
        record { of_small = omega (arith, h.of_small); of_large = omega (arith, h.of_large, length-append large (e ∷ [])) }

    pub all_edits-large : (e : E) → all_edits whole (turns ++ false ∷ []) small (large ++ e ∷ []) ≡ all_edits whole turns small large ++ e ∷ []
    all_edits-large e = ap (λ (ss : List S). all_edits whole (turns ++ false ∷ []) ss (large ++ e ∷ [])) (sym (append-nil small))
        ∙ all_edits-append whole turns small large (false ∷ []) [] (e ∷ []) h

  -- the newest edit is small: without it each of the others has its turn
  pub HaveTurns-less_small : (turns : List Bool) (small : List S) (s : S) (large : List E)
      → HaveTurns (turns ++ true ∷ []) (small ++ s ∷ []) large → HaveTurns turns small large
  HaveTurns-less_small turns small s large h =
      let one = last_counted (λ b. b) true turns in
      let none = last_counted not true turns in
      record { of_small = omega (arith, h.of_small, length-append small (s ∷ [])); of_large = omega (arith, h.of_large) }

  -- it is large
  pub HaveTurns-less_large : (turns : List Bool) (small : List S) (large : List E) (e : E)
      → HaveTurns (turns ++ false ∷ []) small (large ++ e ∷ []) → HaveTurns turns small large
  HaveTurns-less_large turns small large e h =
      let none = last_counted (λ b. b) false turns in
      let one = last_counted not false turns in
      record { of_small = omega (arith, h.of_small); of_large = omega (arith, h.of_large, length-append large (e ∷ [])) }

  -- the newest edit is taken off the stack of small ones
  pub less_small : (whole : S → E) (turns rest : List Bool) (b : Bool) (small left : List S) (r : Option S) (s : S) (large : List E)
      → HaveTurns turns small large
      → turns ≡ rest ++ b ∷ [] → b ≡ true → small ≡ left ++ option_to_list r → r ≡ Some s
      → all_edits whole turns small large ≡ all_edits whole rest left large ++ whole s ∷ []
  less_small whole turns rest b small left r s large h is is_true kept some =
      let turns_are : turns ≡ rest ++ true ∷ [] = is ∙ ap (λ (x : Bool). rest ++ x ∷ []) is_true in
      let small_are : small ≡ left ++ s ∷ [] = kept ∙ ap (λ (x : Option S). left ++ option_to_list x) some in
      let had : HaveTurns (rest ++ true ∷ []) (left ++ s ∷ []) large =
      subst (λ (xs : List S). HaveTurns (rest ++ true ∷ []) xs large) small_are
      (subst (λ (bs : List Bool). HaveTurns bs small large) turns_are h) in
      ap (λ (bs : List Bool). all_edits whole bs small large) turns_are
      ∙ (ap (λ (xs : List S). all_edits whole (rest ++ true ∷ []) xs large) small_are
      ∙ all_edits-small whole rest left large (HaveTurns-less_small rest left s large had) s)

  -- off that of large ones
  pub less_large : (whole : S → E) (turns rest : List Bool) (b : Bool) (small : List S) (large left : List E) (r : Option E) (e : E)
      → HaveTurns turns small large
      → turns ≡ rest ++ b ∷ [] → b ≡ false → large ≡ left ++ option_to_list r → r ≡ Some e
      → all_edits whole turns small large ≡ all_edits whole rest small left ++ e ∷ []
  less_large whole turns rest b small large left r e h is is_false kept some =
      let turns_are : turns ≡ rest ++ false ∷ [] = is ∙ ap (λ (x : Bool). rest ++ x ∷ []) is_false in
      let large_are : large ≡ left ++ e ∷ [] = kept ∙ ap (λ (x : Option E). left ++ option_to_list x) some in
      let had : HaveTurns (rest ++ false ∷ []) small (left ++ e ∷ []) =
      subst (λ (xs : List E). HaveTurns (rest ++ false ∷ []) small xs) large_are
      (subst (λ (bs : List Bool). HaveTurns bs small large) turns_are h) in
      ap (λ (bs : List Bool). all_edits whole bs small large) turns_are
      ∙ (ap (λ (xs : List E). all_edits whole (rest ++ false ∷ []) small xs) large_are
      ∙ all_edits-large whole rest small left (HaveTurns-less_large rest small left e had) e)
