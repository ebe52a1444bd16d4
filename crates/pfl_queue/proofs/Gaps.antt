-- Links in the order of a number, when one comes or goes.
use Rattle.std.specs.Prelude.{◌≡◌, ℕ, ◌<◌, List, [], ◌∷◌, ◌++◌, length, Option, Some, None}
use Rattle.std.proofs.Common.{◌∙◌, ap, sym, subst, arith, refl}
use Rattle.pfl_containers.specs.Lists.{Link, link, Lists, Place, links_of, with_links, last_from, last_slot}
use Rattle.pfl_containers.proofs.ForCallers.{links_of-same}
use Rattle.pfl_edits.proofs.ForCallers.{some_is_none}
use Rattle.pfl_queue.specs.inner.Rising.{IsAbove, IsBelow, IsRising, InsertsInOrder, OrderedGap}

module _ {V : Type 0} (number : V → ℕ) where
  -- links in order without one of them
  pub IsRising-without : (f : List (Link V)) (x : Link V) (b : List (Link V)) → IsRising number (f ++ x ∷ b) → IsRising number (f ++ b)
  IsRising-without [] x b r = r.1
  IsRising-without (y ∷ f) x b r = (less (number y.value) f r.0, IsRising-without f x b r.1)
    where
      less : (m : ℕ) (g : List (Link V)) → IsAbove number m (g ++ x ∷ b) → IsAbove number m (g ++ b)
      less m [] a = a.1
      less m (z ∷ g) a = (a.0, less m g a.1)

  -- what is above a number is above each lesser one,
  pub above_lower : (n m : ℕ) (links : List (Link V)) → n < m → IsAbove number m links → IsAbove number n links
  above_lower n m [] less above = tt
  above_lower n m (x ∷ links) less above = (omega (arith, less, above.0), above_lower n m links less above.1)

  -- and where the last of rising links is below a number, so is each
  pub below_last : (n : ℕ) (f : List (Link V)) (x : Link V) → IsRising number (f ++ x ∷ []) → number x.value < n → IsBelow number n (f ++ x ∷ [])
  below_last n [] x r low = (low, tt)
  below_last n (y ∷ f) x r low = (omega (arith, low, above-at (number y.value) f r.0), below_last n f x r.1 low)
    where
      above-at : (m : ℕ) (g : List (Link V)) → IsAbove number m (g ++ x ∷ []) → m < number x.value
      above-at m [] a = a.0
      above-at m (z ∷ g) a = above-at m g a.1

module _ {V : Type 0} (number : V → ℕ) (n : ℕ) where
  -- a link put between those below it and those above it
  rising-with : (f : List (Link V)) (x : Link V) (b : List (Link V)) → number x.value ≡ n → IsRising number (f ++ b) → IsBelow number n f
      → IsAbove number n b → IsRising number (f ++ x ∷ b)
  rising-with [] x b is r below above = (subst (λ m. IsAbove number m b) (sym is) above, r)
  rising-with (y ∷ f) x b is r below above = (above-with (number y.value) f r.0 (omega (arith, is, below.0)), rising-with f x b is r.1 below.1 above)
    where
      above-with : (m : ℕ) (f : List (Link V)) → IsAbove number m (f ++ b) → m < number x.value → IsAbove number m (f ++ x ∷ b)
      above-with m [] a h = (h, a)
      above-with m (z ∷ f) a h = (a.0, above-with m f a.1 h)

  -- a link put into the gap of its number
  pub gap-ordered : (c new : Lists V) (list : ℕ) (behind : Option ℕ) (gap : OrderedGap number n c list behind) → list < length c.lists
      → IsRising number (links_of c list) → (x : Link V) → number x.value ≡ n
      → new ≡ with_links c list (gap.front ++ x ∷ gap.back) → InsertsInOrder number (links_of c list) (links_of new list) x
      × (new ≡ with_links c list (links_of new list))
  gap-ordered c new list behind gap within rising x numbered is =
      let links : links_of new list ≡ gap.front ++ x ∷ gap.back = ap (λ (d : Lists V). links_of d list) is
      ∙ links_of-same c list (gap.front ++ x ∷ gap.back) within in (
        record {
          front = gap.front;
          back = gap.back;
          was = gap.split;
          is = links;
          rising = subst (IsRising number) (sym links)
              (rising-with gap.front x gap.back numbered (subst (IsRising number) gap.split rising) gap.below gap.above);
        },
        is ∙ ap (with_links c list) (sym links),
      )

-- ---- the last link of a list

-- links that end with the one at a slot
record Ends {V : Type 0} (slot : ℕ) (links : List (Link V)) : Type 0 where
  front : List (Link V)
  value : V
  is : links ≡ front ++ link slot value ∷ []

last-split : {V : Type 0} (slot : ℕ) (x : Link V) (links : List (Link V)) → last_from x.slot links ≡ slot → Ends slot (x ∷ links)
last-split slot x [] e = record { front = []; value = x.value; is = ap (λ s. link s x.value ∷ []) e }
last-split {V = V} slot x (y ∷ links) e =
    let rest = last-split slot y links e in
    record { front = x ∷ rest.front; value = rest.value; is = ap (λ (l : List (Link V)). x ∷ l) rest.is }

pub record Last {V : Type 0} (c : Lists V) (list slot : ℕ) : Type 0 where
  pub at : Place c slot
  pub split : links_of c list ≡ at.front ++ link slot at.value ∷ []

pub last-place : {V : Type 0} (c : Lists V) (list slot : ℕ) → list < length c.lists → Some slot ≡ last_slot (links_of c list) → Last c list slot
last-place {V = V} c list slot h is = through (links_of c list) refl is
  where
    through : (links : List (Link V)) → links_of c list ≡ links → Some slot ≡ last_slot links → Last c list slot
    through [] e found = absurd (some_is_none slot found)
    through (x ∷ links) e found =
        let same : last_from x.slot links ≡ slot = cc in
        let ends = last-split slot x links same in
        record { at = record { list = list; within = h; front = ends.front; value = ends.value; back = []; split = e ∙ ends.is }; split = e ∙ ends.is }

module _ {V : Type 0} (number : V → ℕ) (c : Lists V) (list n : ℕ) where
  -- where it is below a number, all are,
  pub last-below : (slot : ℕ) (l : Last c list slot) → IsRising number (links_of c list) → (v : V) → v ≡ l.at.value → number v < n
      → IsBelow number n (links_of c list)
  last-below slot l rising v is low =
      let lower : number l.at.value < n = omega (arith, low, ap number is) in
      subst (IsBelow number n) (sym l.split) (below_last number n l.at.front (link slot l.at.value) (subst (IsRising number) l.split rising) lower)

  -- and so they are where there is none
  pub none-below : None ≡ last_slot (links_of c list) → IsBelow number n (links_of c list)
  none-below is = through (links_of c list) is
    where
      through : (links : List (Link V)) → None ≡ last_slot links → IsBelow number n links
      through [] found = tt
      through (x ∷ links) found = absurd (some_is_none (last_from x.slot links) (sym found))
