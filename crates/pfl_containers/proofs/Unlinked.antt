-- A slot is taken out of its ring, and is loose.
use Rattle.std.proofs.Common.{◌≡◌, ◌≢◌, inl, inr, ℕ, ◌+◌, ◌<◌, ◌≤◌, List, [], ◌∷◌, ◌++◌, length, get_or, set, sym, ◌∙◌, ap, subst, arith}
use Rattle.std.proofs.Common.{get_or-set_same, get_or-set_other, length-set}
use Rattle.std.proofs.lemmas.Bool.{cases_eq}
use Rattle.std.proofs.lemmas.Option.{slice_get_within}
use Rattle.pfl_containers.specs.Lists.{Link, link, Lacks}
use Rattle.pfl_containers.specs.inner.Rings.{Nodes, next_of, previous_of, ring_of, IsRing, AreRings, Unlinks}
use Rattle.pfl_containers.proofs.Links.{Lacks-with, Distinct-without, Distinct-apart, Holds-append, Holds-front, Holds-back}
use Rattle.pfl_containers.proofs.Paths.{path-last, path-front, path-back, path-first, path-Lacks, unlink-other, unlink-own}
use Rattle.pfl_containers.proofs.Walked.{each-set}

-- The slot x of ring k is taken out.
module _ {V : Type 0} (old new : Nodes) (values : List V) (limit : ℕ) (rings : List (List (Link V)))
    (a : AreRings old values limit (length values) rings) (few : length values ≤ limit)
    (k : ℕ) (within : k < length rings) (x : ℕ) (v : V) (f b : List (Link V)) (split : get_or rings k [] ≡ f ++ link x v ∷ b) where
  own : IsRing old values (length values) k (limit + k) (f ++ link x v ∷ b)
  own = subst (IsRing old values (length values) k (limit + k)) split (a.each k within)

  pub unlinked-slot : x < length values
  unlinked-slot = slice_get_within values x v (Holds-back values f (link x v ∷ b) own.held).0

  -- the links of the other rings lack it
  others_lack : (r : ℕ) → r < length rings → r ≢ k → Lacks x (get_or rings r [])
  others_lack r h other =
      let known = path-back old k (limit + k) f (link x v) b (limit + k) own.path in
      path-Lacks old r (limit + r) (get_or rings r []) (limit + r) x (a.each r h).path (λ e. other (sym e ∙ known.0))

  no_sentinel : (r : ℕ) → limit + r ≢ x
  no_sentinel r e = let below = unlinked-slot in absurd (omega arith)

  module _ (u : Unlinks old new x) where
    there : next_of old (previous_of old x) ≡ x
    there = let last = path-last old k (limit + k) f x (path-front old k (limit + k) f (link x v) b (limit + k) own.path) in ap (next_of old) last.1 ∙ last.0

    back : previous_of old (next_of old x) ≡ x
    back = path-first old k x b (limit + k) (path-back old k (limit + k) f (link x v) b (limit + k) own.path).1

    apart : Lacks x (f ++ b)
    apart = Distinct-apart f (link x v) b own.distinct

    ring_kept : (r : ℕ) → r < length rings → r ≢ k → IsRing new values x r (limit + r) (get_or rings r [])
    ring_kept r h other = let ring = a.each r h in record {
      path = unlink-other old new x u there back r (limit + r) (get_or rings r []) (limit + r) ring.path (others_lack r h other)
          (no_sentinel r) (no_sentinel r);
      distinct = ring.distinct;
      held = ring.held;
      apart = others_lack r h other;
    }

    ring_less : IsRing new values x k (limit + k) (f ++ b)
    ring_less = record {
      path = unlink-own old new x u there back k (limit + k) f v b (limit + k) own.path apart (no_sentinel k) (no_sentinel k);
      distinct = Distinct-without f (link x v) b own.distinct;
      held = Holds-append values f b (Holds-front values f (link x v ∷ b) own.held) (Holds-back values f (link x v ∷ b) own.held).1;
      apart = apart;
    }

    still_stands : (y : ℕ) → y < length values → y ≢ x → Lacks y (get_or (set rings k (f ++ b)) (ring_of old y) []) → ⊥
    still_stands y h ne lacks =
        let was = a.stands y h (λ e. absurd (omega arith)) in
        elim (cases_eq (ring_of old y) k) [
          | inl same ↦
              let here : get_or (set rings k (f ++ b)) (ring_of old y) [] ≡ f ++ b = ap (λ r. get_or (set rings k (f ++ b)) r []) same
              ∙ get_or-set_same rings k (f ++ b) [] within in
              let more = Lacks-with y f (link x v) b (λ e. ne (sym e)) (subst (Lacks y) here lacks) in
              was (subst (Lacks y) (sym (ap (λ r. get_or rings r []) same ∙ split)) more)
          | inr other ↦ was (subst (Lacks y) (get_or-set_other rings k (ring_of old y) (f ++ b) [] other) lacks)
        ]

    pub rings-unlinked : AreRings new values limit x (set rings k (f ++ b))
    rings-unlinked = record {
      each = each-set (λ r (l : List (Link V)). IsRing new values x r (limit + r) l) rings k (f ++ b) [] within ring_less ring_kept;
      within = λ y h ne. let was = a.within y h (λ e. absurd (omega arith)) in omega (arith, u.rings y, length-set rings k (f ++ b));
      stands = λ y h ne lacks. still_stands y h ne (subst (λ r. Lacks y (get_or (set rings k (f ++ b)) r [])) (u.rings y) lacks);
    }
