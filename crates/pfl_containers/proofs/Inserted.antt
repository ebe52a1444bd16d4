-- A loose slot is put into a ring.
use Rattle.std.proofs.Common.{◌≡◌, ◌≢◌, ◌⊎◌, inl, inr, ℕ, ◌+◌, ◌<◌, ◌≤◌, List, [], ◌∷◌, ◌++◌, length, get_or, set, slice_get, Some, refl, sym, ◌∙◌}
use Rattle.std.proofs.Common.{ap, subst, arith, get_or-set_same, get_or-set_other, length-set}
use Rattle.std.proofs.lemmas.Bool.{cases_eq}
use Rattle.std.proofs.lemmas.Option.{slice_get_within, slice_get_past}
use Rattle.pfl_containers.specs.Lists.{Link, link, last_from, Lacks}
use Rattle.pfl_containers.specs.inner.Rings.{Nodes, next_of, Path, Holds, previous_of, ring_of, IsNumber, IsRing, AreRings, Inserts}
use Rattle.pfl_containers.proofs.Links.{Lacks-back, Lacks-front, Lacks-without, last-Lacks, Distinct-with, Holds-append, Holds-front, Holds-back, Holds-Lacks}
use Rattle.pfl_containers.proofs.Paths.{path-first, path-rest, path-known, path-Lacks, insert-other, insert-own}
use Rattle.pfl_containers.proofs.Walked.{each-set}

-- The loose slot x, with the value v, is put into ring k after the node p.
module _ {V : Type 0} (old new : Nodes) (values : List V) (limit : ℕ) (rings : List (List (Link V))) (x : ℕ)
    (a : AreRings old values limit x rings) (few : length values ≤ limit)
    (v : V) (at : slice_get values x ≡ Some v) (k : ℕ) (within : k < length rings) (f b : List (Link V))
    (split : get_or rings k [] ≡ f ++ b) (p : ℕ) (ends : last_from (limit + k) f ≡ p) where
  own : IsRing old values x k (limit + k) (f ++ b)
  own = subst (IsRing old values x k (limit + k)) split (a.each k within)

  slot : x < length values
  slot = slice_get_within values x v at

  no_sentinel : (r : ℕ) → limit + r ≢ x
  no_sentinel r e = let below = slot in absurd (omega arith)

  -- p begins the ring, or is one of its slots
  place_is : (g : List (Link V)) → g ≡ f → (p ≡ limit + k) ⊎ ((ring_of old p ≡ k) × (p < length values))
  place_is [] e = inl (sym ends ∙ ap (last_from (limit + k)) (sym e))
  place_is (y ∷ g) e =
      let path : Path old k (limit + k) (y ∷ (g ++ b)) (limit + k) =
      subst (λ (m : List (Link V)). Path old k (limit + k) (m ++ b) (limit + k)) (sym e) own.path in
      let held : Holds values (y ∷ (g ++ b)) = subst (λ (m : List (Link V)). Holds values (m ++ b)) (sym e) own.held in
      let is : last_from y.slot g ≡ p = ap (last_from (limit + k)) e ∙ ends in
      inr (subst (λ n. (ring_of old n ≡ k)
      × (n < length values)) is
      (path-known old values k y.slot g b (limit + k) path.3 held.1 (path.2, slice_get_within values y.slot y.value held.0)))

  slot-number : (i : ℕ) → i < length values → IsNumber (length values) limit (length rings) i
  slot-number i h = record { below = omega arith; slot = λ _. h }

  head-number : (i : ℕ) → i ≡ limit + k → IsNumber (length values) limit (length rings) i
  head-number i e = record { below = omega arith; slot = λ h. absurd (omega arith) }

  pub inserted-after : IsNumber (length values) limit (length rings) p
  inserted-after = elim (place_is f refl) [ inl e ↦ head-number p e | inr known ↦ slot-number p known.1 ]

  rest : Path old k p b (limit + k)
  rest = subst (λ n. Path old k n b (limit + k)) ends (path-rest old k (limit + k) f b (limit + k) own.path)

  next_is : (g : List (Link V)) → Path old k p g (limit + k) → Holds values g → Lacks x g
      → IsNumber (length values) limit (length rings) (next_of old p) × (x ≢ next_of old p)
  next_is [] q h l = (head-number (next_of old p) q.0, λ e. no_sentinel k (sym (e ∙ q.0)))
  next_is (y ∷ g) q h l = (slot-number (next_of old p) (omega (arith, q.0, slice_get_within values y.slot y.value h.0)), λ e. l.0 (sym (e ∙ q.0)))

  pub inserted-next : IsNumber (length values) limit (length rings) (next_of old p) × (x ≢ next_of old p)
  inserted-next = next_is b rest (Holds-back values f b own.held) (Lacks-back x f b own.apart)

  pub inserted-apart : x ≢ p
  inserted-apart e = last-Lacks x (limit + k) f (no_sentinel k) (Lacks-front x f b own.apart) (ends ∙ sym e)

  module _ (i : Inserts old new k x p) where
    back : previous_of old (next_of old p) ≡ p
    back = path-first old k p b (limit + k) rest

    -- the other rings do not have p
    others_lack : (r : ℕ) → r < length rings → r ≢ k → Lacks p (get_or rings r []) × (limit + r ≢ p)
    others_lack r h other = let ring = a.each r h in elim (place_is f refl) [
      | inl e ↦ (Holds-Lacks values p (get_or rings r []) (slice_get_past values p (omega arith)) ring.held, λ same. absurd (other (omega arith)))
      | inr known ↦ (
        path-Lacks old r (limit + r) (get_or rings r []) (limit + r) p ring.path
            (λ same. other (sym same ∙ known.0)),
        λ same. absurd (omega arith),
      )
    ]

    ring_kept : (r : ℕ) → r < length rings → r ≢ k → IsRing new values (length values) r (limit + r) (get_or rings r [])
    ring_kept r h other = let ring = a.each r h in let lack = others_lack r h other in record {
      path = insert-other old new k x p i back r (limit + r) (get_or rings r []) (limit + r) ring.path ring.apart (no_sentinel r) (no_sentinel r) lack.0 lack.1;
      distinct = ring.distinct;
      held = ring.held;
      apart = Holds-Lacks values (length values) (get_or rings r []) (slice_get_past values (length values) (omega arith)) ring.held;
    }

    held_more : Holds values (f ++ link x v ∷ b)
    held_more = Holds-append values f (link x v ∷ b) (Holds-front values f b own.held) (at, Holds-back values f b own.held)

    ring_more : IsRing new values (length values) k (limit + k) (f ++ link x v ∷ b)
    ring_more = record {
      path = insert-own old new k x p i back (limit + k) f v b (limit + k) own.path ends own.apart (no_sentinel k) (no_sentinel k)
          (Holds-Lacks values (limit + k) (f ++ b) (slice_get_past values (limit + k) (omega arith)) own.held) own.distinct;
      distinct = Distinct-with f (link x v) b own.distinct own.apart;
      held = held_more;
      apart = Holds-Lacks values (length values) (f ++ link x v ∷ b) (slice_get_past values (length values) (omega arith)) held_more;
    }

    stands_here : (r : ℕ) → r ≡ k → Lacks x (get_or (set rings k (f ++ link x v ∷ b)) r []) → ⊥
    stands_here r same lacks =
        let here : get_or (set rings k (f ++ link x v ∷ b)) r [] ≡ f ++ link x v ∷ b =
        ap (λ n. get_or (set rings k (f ++ link x v ∷ b)) n []) same ∙ get_or-set_same rings k (f ++ link x v ∷ b) [] within in
        (Lacks-back x f (link x v ∷ b) (subst (Lacks x) here lacks)).0 refl

    still_stands : (y : ℕ) → y < length values → y ≢ x → Lacks y (get_or (set rings k (f ++ link x v ∷ b)) (ring_of old y) []) → ⊥
    still_stands y h ne lacks = elim (cases_eq (ring_of old y) k) [
      | inl same ↦
          let here : get_or (set rings k (f ++ link x v ∷ b)) (ring_of old y) [] ≡ f ++ link x v ∷ b =
          ap (λ n. get_or (set rings k (f ++ link x v ∷ b)) n []) same ∙ get_or-set_same rings k (f ++ link x v ∷ b) [] within in
          let less = Lacks-without y f (link x v) b (subst (Lacks y) here lacks) in
          a.stands y h ne (subst (Lacks y) (sym (ap (λ r. get_or rings r []) same ∙ split)) less)
      | inr other ↦ a.stands y h ne (subst (Lacks y) (get_or-set_other rings k (ring_of old y) (f ++ link x v ∷ b) [] other) lacks)
    ]

    pub rings-inserted : AreRings new values limit (length values) (set rings k (f ++ link x v ∷ b))
    rings-inserted = record {
      each = each-set (λ r (l : List (Link V)). IsRing new values (length values) r (limit + r) l) rings k (f ++ link x v ∷ b) [] within ring_more ring_kept;
      within = λ y h _. elim (cases_eq y x) [
        | inl same ↦ omega (arith, ap (ring_of new) same, i.ring_here, length-set rings k (f ++ link x v ∷ b))
        | inr other ↦ omega (arith, i.other_ring y other, a.within y h other, length-set rings k (f ++ link x v ∷ b))
      ];
      stands = λ y h _ lacks. elim (cases_eq y x) [
        | inl same ↦ stands_here (ring_of new y) (ap (ring_of new) same ∙ i.ring_here)
            (subst (λ n. Lacks n (get_or (set rings k (f ++ link x v ∷ b)) (ring_of new y) [])) same lacks)
        | inr other ↦ still_stands y h other (subst (λ r. Lacks y (get_or (set rings k (f ++ link x v ∷ b)) r [])) (i.other_ring y other) lacks)
      ];
    }
