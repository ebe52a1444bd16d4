-- Rows in the order of their names, when one comes, goes or is changed, and where one belongs.
use Rattle.std.specs.Prelude.{◌≡◌, true, false, List, [], ◌∷◌, ◌++◌, find, Option, Some, None, MatchOption, refl}
use Rattle.std.specs.declared.cmp.Ordering.{Ordering}
use Rattle.std.specs.declared.cmp.Ordering.TheVariants.{Less, Equal, Greater}
use Rattle.std.specs.Ordering.{eq_by_cmp, is_eq, is_lt, ordering_reverse}
use Rattle.std.specs.Cmp.{IsTotalOrder}
use Rattle.std.proofs.Common.{cond, T, ◌∙◌, ap, sym, subst}
use Rattle.pfl_edits.specs.Ordered.{IsBelow, IsRising}
use Rattle.pfl_edits.specs.inner.Ordered.{IsAbove}
use Rattle.pfl_edits.proofs.ForCallers.{row_at, some_is_none}

module _ {K X : Type 0} (R : K → K → Ordering) (key : X → K) where
  below-without : (q : K) (f : List X) (x : X) (b : List X) → IsBelow R key q (f ++ x ∷ b) → IsBelow R key q (f ++ b)
  below-without q [] x b h = h.1
  below-without q (y ∷ f) x b h = (h.0, below-without q f x b h.1)

  below-with : (q : K) (f : List X) (x : X) (b : List X) → R q (key x) ≡ Less → IsBelow R key q (f ++ b) → IsBelow R key q (f ++ x ∷ b)
  below-with q [] x b less h = (less, h)
  below-with q (y ∷ f) x b less h = (h.0, below-with q f x b less h.1)

  below-at : (q : K) (f : List X) (x : X) (b : List X) → IsBelow R key q (f ++ x ∷ b) → R q (key x) ≡ Less
  below-at q [] x b h = h.0
  below-at q (y ∷ f) x b h = below-at q f x b h.1

  -- a row less
  pub rising-without : (f : List X) (x : X) (b : List X) → IsRising R key (f ++ x ∷ b) → IsRising R key (f ++ b)
  rising-without [] x b r = r.1
  rising-without (y ∷ f) x b r = (below-without (key y) f x b r.0, rising-without f x b r.1)

  -- a row more, above those before it and below those after it
  pub rising-with : (f : List X) (x : X) (b : List X) → IsRising R key (f ++ b) → IsAbove R key (key x) f → IsBelow R key (key x) b
      → IsRising R key (f ++ x ∷ b)
  rising-with [] x b r above below = (below, r)
  rising-with (y ∷ f) x b r above below = (below-with (key y) f x b above.0 r.0, rising-with f x b r.1 above.1 below)

  -- another row of the same key
  pub rising-changed : (f : List X) (x y : X) (b : List X) → key y ≡ key x → IsRising R key (f ++ x ∷ b) → IsRising R key (f ++ y ∷ b)
  rising-changed [] x y b same r = (subst (λ k. IsBelow R key k b) (sym same) r.0, r.1)
  rising-changed (z ∷ f) x y b same r =
      (below-with (key z) f y b (ap (R (key z)) same ∙ below-at (key z) f x b r.0) (below-without (key z) f x b r.0), rising-changed f x y b same r.1)

-- Where a row belongs: before the first row above it.
module _ {K X : Type 0} {R : K → K → Ordering} (o : IsTotalOrder R) (key : X → K) (q : K) where
  -- the rows before the first one that is above the key, and those from it on
  pub record Parts (links : List X) (next : Option X) : Type 0 where
    pub front : List X
    pub back : List X
    pub split : links ≡ front ++ back
    pub above : IsAbove R key q front
    pub below : IsBelow R key q back
    pub first : MatchOption next (back ≡ []) (λ x. (rest : List X) × (back ≡ x ∷ rest))

  less_is : (r : Ordering) → is_lt r ≡ true → r ≡ Less
  less_is Less e = refl
  less_is Equal e = absurd (subst T (sym e) tt)
  less_is Greater e = absurd (subst T (sym e) tt)

  -- neither below nor the same
  greater_is : (r : Ordering) → is_lt r ≡ false → is_eq r ≡ false → r ≡ Greater
  greater_is Less e f = absurd (subst T e tt)
  greater_is Equal e f = absurd (subst T f tt)
  greater_is Greater e f = refl

  later : (p x : K) (links : List X) → R p x ≡ Less → IsBelow R key x links → IsBelow R key p links
  later p x [] less h = tt
  later p x (y ∷ links) less h = (o.trans p x (key y) less h.0, later p x links less h.1)

  other : (x : X) (links : List X) → row_at R key (x ∷ links) q ≡ None → (eq_by_cmp R q (key x) ≡ false) × (row_at R key links q ≡ None)
  other x links none = elim (eq_by_cmp R q (key x)) as (λ b. cond b (Some x) (row_at R key links q) ≡ None → (b ≡ false) × (row_at R key links q ≡ None)) [
    | true ↦ λ is. absurd (some_is_none x is)
    | false ↦ λ is. (refl, is)
  ] none

  pub parts : (links : List X) → IsRising R key links → row_at R key links q ≡ None → Parts links (find (λ x. is_lt (R q (key x))) links)
  parts [] r none = record { front = []; back = []; split = refl; above = tt; below = tt; first = refl }
  parts (x ∷ links) r none =
      elim (is_lt (R q (key x))) as (λ b. is_lt (R q (key x)) ≡ b → Parts (x ∷ links) (cond b (Some x) (find (λ y. is_lt (R q (key y))) links))) [
        | true ↦ λ is. let less = less_is (R q (key x)) is in record {
          front = [];
          back = x ∷ links;
          split = refl;
          above = tt;
          below = (less, later q (key x) links less r.0);
          first = (links, refl);
        }
        | false ↦ λ is.
            let apart = other x links none in
            let more = parts links r.1 apart.1 in
            let above : R (key x) q ≡ Less = o.antisymm (key x) q ∙ ap ordering_reverse (greater_is (R q (key x)) is apart.0) in
            record {
              front = x ∷ more.front;
              back = more.back;
              split = ap (λ (l : List X). x ∷ l) more.split;
              above = (above, more.above);
              below = more.below;
              first = more.first;
            }
      ] refl
