-- A tape whose newest edit is not small: of the larger ones it is put onto its stack, or taken off.
use Rattle.std.proofs.Common.{◌≡◌, List, [], ◌∷◌, ◌++◌, Bool, true, false, Some, refl, ap, sym, subst, ◌∙◌}
use Rattle.pfl_edits.specs.inner.Tapes.{all_edits, HaveTurns}
use Rattle.pfl_edits.proofs.Turns.{all_edits-large, HaveTurns-large, HaveTurns-less_small, HaveTurns-less_large, less_small, less_large}

module _ {S E : Type 0} (whole : S → E) (turns : List Bool) (small : List S) where
  -- of the larger edits, `es` become those with e as the newest
  module _ (es more : List E) (h : HaveTurns turns small es) (e : E) (is : more ≡ es ++ e ∷ []) where
    pub HaveTurns-larger : HaveTurns (turns ++ false ∷ []) small more
    HaveTurns-larger = subst (λ (xs : List E). HaveTurns (turns ++ false ∷ []) small xs) (sym is) (HaveTurns-large whole turns small es h e)

    pub all_edits-larger : all_edits whole (turns ++ false ∷ []) small more ≡ all_edits whole turns small es ++ e ∷ []
    all_edits-larger = ap (λ (xs : List E). all_edits whole (turns ++ false ∷ []) small xs) is ∙ all_edits-large whole turns small es h e

  -- of the larger edits, all but e are `left`
  module _ (rest : List Bool) (b : Bool) (es left : List E) (h : HaveTurns turns small es) (turns_are : turns ≡ rest ++ b ∷ [])
      (is_false : b ≡ false) (e : E) (is : es ≡ left ++ e ∷ []) where
    pub HaveTurns-less_larger : HaveTurns rest small left
    HaveTurns-less_larger =
        let all : turns ≡ rest ++ false ∷ [] = turns_are ∙ ap (λ (x : Bool). rest ++ x ∷ []) is_false in
        HaveTurns-less_large rest small left e
        (subst (λ (xs : List E). HaveTurns (rest ++ false ∷ []) small xs) is (subst (λ (bs : List Bool). HaveTurns bs small es) all h))

    pub less_larger : all_edits whole turns small es ≡ all_edits whole rest small left ++ e ∷ []
    less_larger = less_large whole turns rest b small es left (Some e) e h turns_are is_false is refl

-- the newest of the larger edits is of middle size: without it each of the others has its turn
pub HaveTurns-less_middle : {S E : Type 0} (turns rest : List Bool) (b : Bool) (small left : List S) (s : S) (large : List E) → HaveTurns turns small large
    → turns ≡ rest ++ b ∷ [] → b ≡ true → small ≡ left ++ s ∷ [] → HaveTurns rest left large
HaveTurns-less_middle {S = S} turns rest b small left s large h turns_are is_true is =
    let all : turns ≡ rest ++ true ∷ [] = turns_are ∙ ap (λ (x : Bool). rest ++ x ∷ []) is_true in
    HaveTurns-less_small rest left s large
    (subst (λ (xs : List S). HaveTurns (rest ++ true ∷ []) xs large) is (subst (λ (bs : List Bool). HaveTurns bs small large) all h))

-- Both levels of a tape whose newest edit is not small: it is taken off the stack of its size.
module _ {S M E : Type 0} (whole_small : S → E) (whole_middle : M
    → E) (turns : List Bool) (small : List S) (larger_turns : List Bool) (middle : List M) (large : List E)
    (outer : HaveTurns turns small (all_edits whole_middle larger_turns middle large)) (inner : HaveTurns larger_turns middle large)
    (rest : List Bool) (b : Bool) (turns_are : turns ≡ rest ++ b ∷ []) (is_false : b ≡ false) (left : List Bool) (d : Bool)
    (larger_are : larger_turns ≡ left ++ d ∷ []) where
  -- off that of those of middle size
  module _ (is_middle : d ≡ true) (ms : List M) (m : M) (is : middle ≡ ms ++ m ∷ []) where
    of_larger : all_edits whole_middle larger_turns middle large ≡ all_edits whole_middle left ms large ++ whole_middle m ∷ []
    of_larger = less_small whole_middle larger_turns left d middle ms (Some m) m large inner larger_are is_middle is refl

    pub turns_less_middle : HaveTurns rest small (all_edits whole_middle left ms large) × HaveTurns left ms large
    turns_less_middle = (
      HaveTurns-less_larger whole_small turns small rest b _ _ outer turns_are is_false (whole_middle m) of_larger,
      HaveTurns-less_middle larger_turns left d middle ms m large inner larger_are is_middle is,
    )

    pub edits_less_middle : all_edits whole_small turns small (all_edits whole_middle larger_turns middle large)
        ≡ all_edits whole_small rest small (all_edits whole_middle left ms large) ++ whole_middle m ∷ []
    edits_less_middle = less_larger whole_small turns small rest b _ _ outer turns_are is_false (whole_middle m) of_larger

  -- off that of large ones
  module _ (is_large : d ≡ false) (es : List E) (e : E) (is : large ≡ es ++ e ∷ []) where
    of_large : all_edits whole_middle larger_turns middle large ≡ all_edits whole_middle left middle es ++ e ∷ []
    of_large = less_large whole_middle larger_turns left d middle large es (Some e) e inner larger_are is_large is refl

    pub turns_less_large : HaveTurns rest small (all_edits whole_middle left middle es) × HaveTurns left middle es
    turns_less_large = (
      HaveTurns-less_larger whole_small turns small rest b _ _ outer turns_are is_false e of_large,
      HaveTurns-less_larger whole_middle larger_turns middle left d large es inner larger_are is_large e is,
    )

    pub edits_less_large : all_edits whole_small turns small (all_edits whole_middle larger_turns middle large)
        ≡ all_edits whole_small rest small (all_edits whole_middle left middle es) ++ e ∷ []
    edits_less_large = less_larger whole_small turns small rest b _ _ outer turns_are is_false e of_large
