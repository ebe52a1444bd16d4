-- Lists of links: the slots that they have, and the values of these.
use Rattle.std.proofs.Common.{◌≡◌, ◌≢◌, inl, inr, ℕ, zero, suc, ◌+◌, ◌<◌, ◌≤◌, List, [], ◌∷◌, ◌++◌, length, get_or, set, slice_get, Some, None, sym}
use Rattle.std.proofs.Common.{◌∙◌, ap, arith}
use Rattle.std.proofs.lemmas.Bool.{cases_eq}
use Rattle.std.proofs.lemmas.Option.{slice_get_within}
use Rattle.pfl_containers.specs.Lists.{Link, link, count_of, last_from, Lacks, Distinct}
use Rattle.pfl_containers.specs.inner.Rings.{Holds}

module _ {V : Type 0} where
  -- links of two parts lack what each part lacks
  pub Lacks-append : (x : ℕ) (f b : List (Link V)) → Lacks x f → Lacks x b → Lacks x (f ++ b)
  Lacks-append x [] b p q = q
  Lacks-append x (y ∷ f) b p q = (p.0, Lacks-append x f b p.1 q)

  pub Lacks-front : (x : ℕ) (f b : List (Link V)) → Lacks x (f ++ b) → Lacks x f
  Lacks-front x [] b p = tt
  Lacks-front x (y ∷ f) b p = (p.0, Lacks-front x f b p.1)

  pub Lacks-back : (x : ℕ) (f b : List (Link V)) → Lacks x (f ++ b) → Lacks x b
  Lacks-back x [] b p = p
  Lacks-back x (y ∷ f) b p = Lacks-back x f b p.1

  -- the last of some links is none that they lack
  pub last-Lacks : (x s : ℕ) (l : List (Link V)) → s ≢ x → Lacks x l → last_from s l ≢ x
  last-Lacks x s [] a p = a
  last-Lacks x s (y ∷ l) a p = last-Lacks x y.slot l p.0 p.1

  -- distinct links without one of them
  pub Distinct-without : (f : List (Link V)) (y : Link V) (b : List (Link V)) → Distinct (f ++ y ∷ b) → Distinct (f ++ b)
  Distinct-without [] y b d = d.1
  Distinct-without (z ∷ f) y b d =
      (Lacks-append z.slot f b (Lacks-front z.slot f (y ∷ b) d.0) (Lacks-back z.slot f (y ∷ b) d.0).1, Distinct-without f y b d.1)

  -- lack its slot
  pub Distinct-apart : (f : List (Link V)) (y : Link V) (b : List (Link V)) → Distinct (f ++ y ∷ b) → Lacks y.slot (f ++ b)
  Distinct-apart [] y b d = d.0
  Distinct-apart (z ∷ f) y b d = let other : z.slot ≢ y.slot = λ e. (Lacks-back z.slot f (y ∷ b) d.0).0 (sym e) in (other, Distinct-apart f y b d.1)

  -- and with a new one they are distinct
  pub Distinct-with : (f : List (Link V)) (y : Link V) (b : List (Link V)) → Distinct (f ++ b) → Lacks y.slot (f ++ b) → Distinct (f ++ y ∷ b)
  Distinct-with [] y b d p = (p, d)
  Distinct-with (z ∷ f) y b d p =
      let other : y.slot ≢ z.slot = λ e. p.0 (sym e) in
      (Lacks-append z.slot f (y ∷ b) (Lacks-front z.slot f b d.0) (other, Lacks-back z.slot f b d.0), Distinct-with f y b d.1 p.1)

  -- a link more or less
  pub Lacks-with : (x : ℕ) (f : List (Link V)) (y : Link V) (b : List (Link V)) → y.slot ≢ x → Lacks x (f ++ b) → Lacks x (f ++ y ∷ b)
  Lacks-with x f y b other p = Lacks-append x f (y ∷ b) (Lacks-front x f b p) (other, Lacks-back x f b p)

  pub Lacks-without : (x : ℕ) (f : List (Link V)) (y : Link V) (b : List (Link V)) → Lacks x (f ++ y ∷ b) → Lacks x (f ++ b)
  Lacks-without x f y b p = Lacks-append x f b (Lacks-front x f (y ∷ b) p) (Lacks-back x f (y ∷ b) p).1

  -- where a slot stands among links that do not lack it
  pub record Found (x : ℕ) (l : List (Link V)) : Type 0 where
    pub front : List (Link V)
    pub value : V
    pub back : List (Link V)
    pub split : l ≡ front ++ link x value ∷ back

  pub found : (x : ℕ) (l : List (Link V)) → (Lacks x l → ⊥) → Found x l
  found x [] n = absurd (n tt)
  found x (y ∷ l) n = elim (cases_eq y.slot x) [
    | inl same ↦ record { front = []; value = y.value; back = l; split = ap (λ s. link s y.value ∷ l) same }
    | inr other ↦ let more = found x l (λ p. n (other, p)) in record {
      front = y ∷ more.front;
      value = more.value;
      back = more.back;
      split = ap (λ (m : List (Link V)). y ∷ m) more.split;
    }
  ]

  pub Holds-append : (values : List V) (f b : List (Link V)) → Holds values f → Holds values b → Holds values (f ++ b)
  Holds-append values [] b p q = q
  Holds-append values (y ∷ f) b p q = (p.0, Holds-append values f b p.1 q)

  pub Holds-front : (values : List V) (f b : List (Link V)) → Holds values (f ++ b) → Holds values f
  Holds-front values [] b p = tt
  Holds-front values (y ∷ f) b p = (p.0, Holds-front values f b p.1)

  pub Holds-back : (values : List V) (f b : List (Link V)) → Holds values (f ++ b) → Holds values b
  Holds-back values [] b p = p
  Holds-back values (y ∷ f) b p = Holds-back values f b p.1

  -- links have no slot that has no value
  pub Holds-Lacks : (values : List V) (x : ℕ) (l : List (Link V)) → slice_get values x ≡ None → Holds values l → Lacks x l
  Holds-Lacks values x [] e h = tt
  Holds-Lacks values x (y ∷ l) e h =
      let other : y.slot ≢ x = λ same. (let at : slice_get values x ≡ Some y.value = ap (slice_get values) (sym same) ∙ h.0 in cc) in
      (other, Holds-Lacks values x l e h.1)

  -- a value changed at a slot that they lack
  pub Holds-changed : (old new : List V) (x : ℕ) (l : List (Link V))
      → ((i : ℕ) (v : V) → i ≢ x → slice_get old i ≡ Some v → slice_get new i ≡ Some v) → Lacks x l → Holds old l → Holds new l
  Holds-changed old new x [] keep p h = tt
  Holds-changed old new x (y ∷ l) keep p h = (keep y.slot y.value p.0 h.0, Holds-changed old new x l keep p.1 h.1)

  -- what a count of all links says of one list
  pub count-set : (lists : List (List (Link V))) (k : ℕ) (l : List (Link V)) → k < length lists
      → count_of (set lists k l) + length (get_or lists k []) ≡ count_of lists + length l
  count-set [] k l h = absurd (omega arith)
  count-set (x ∷ lists) zero l h = omega arith
  count-set (x ∷ lists) (suc k) l h = omega (arith, count-set lists k l (omega arith))

  pub count-get : (lists : List (List (Link V))) (k : ℕ) → length (get_or lists k []) ≤ count_of lists
  count-get [] k = omega arith
  count-get (x ∷ lists) zero = omega arith
  count-get (x ∷ lists) (suc k) = omega (arith, count-get lists k)

  -- the last of links with values is a slot that has one
  pub last-Holds : (values : List V) (s : ℕ) (l : List (Link V)) → s < length values → Holds values l → last_from s l < length values
  last-Holds values s [] below h = below
  last-Holds values s (x ∷ l) below h = last-Holds values x.slot l (slice_get_within values x.slot x.value h.0) h.1
