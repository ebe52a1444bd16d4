-- A tape below and above a mark.
use Rattle.std.proofs.Common.{◌≡◌, ℕ, ◌+◌, ◌<◌, ◌≤◌, List, [], ◌∷◌, ◌++◌, length, ◌∙◌, ap, sym, arith, append_assoc, length-append}
use Rattle.std.proofs.Math.Seq.{take-append_seam, drop-append_seam}
use Rattle.std.proofs.lemmas.List.{take-append-drop, take-append-le, drop-append-le}
use Rattle.pfl_edits.specs.Tapes.{above, below}

-- xs are the edits of a tape: ys, and e as the newest
module _ {E : Type 0} (xs ys : List E) (e : E) (is : xs ≡ ys ++ e ∷ []) where
  pub length_newest : length xs ≡ length ys + 1
  length_newest = ap length is ∙ length-append ys (e ∷ [])

  module _ (m : ℕ) (under : m < length xs) where
    within : m ≤ length ys
    within = omega (arith, length_newest)

    -- the newest is above a mark under the length
    pub above_newest : above m xs ≡ above m ys ++ e ∷ []
    above_newest = ap (above m) is ∙ drop-append-le m ys (e ∷ []) within

    -- and not below it
    pub below_newest : below m xs ≡ below m ys
    below_newest = ap (below m) is ∙ take-append-le m ys (e ∷ []) within

-- xs are the oldest edits of a tape: ys, and e as the newest
module _ {E : Type 0} (tape xs ys : List E) (e : E) (is : xs ≡ ys ++ e ∷ []) (front : xs ≡ below (length xs) tape) where
  whole : tape ≡ ys ++ e ∷ above (length xs) tape
  whole =
      sym (take-append-drop (length xs) tape)
      ∙ ap (λ (zs : List E). zs ++ above (length xs) tape) (sym front ∙ is)
      ∙ append_assoc ys (e ∷ []) (above (length xs) tape)

  -- so are ys
  pub below_older : ys ≡ below (length ys) tape
  below_older = sym (ap (below (length ys)) whole ∙ take-append_seam ys (e ∷ above (length xs) tape))

  -- and e is the oldest above them
  pub above_older : above (length ys) tape ≡ e ∷ above (length xs) tape
  above_older = ap (above (length ys)) whole ∙ drop-append_seam ys (e ∷ above (length xs) tape)
