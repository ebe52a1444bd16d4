-- Rings of nodes: how walks find them, and what a value written at a loose slot leaves of them.
use Rattle.std.proofs.Common.{◌≡◌, ◌≢◌, inl, inr, ℕ, zero, suc, ◌+◌, ◌<◌, ◌≤◌, List, [], ◌∷◌, length, get_or, set, slice_get, Some, refl, sym, ◌∙◌}
use Rattle.std.proofs.Common.{ap, subst, arith, add-zero, get_or-set_same, get_or-set_other, length-set}
use Rattle.std.proofs.lemmas.Bool.{cases_eq}
use Rattle.std.proofs.lemmas.Option.{slice_get_past}
use Rattle.pfl_containers.specs.Lists.{Link, Lacks, count_of}
use Rattle.pfl_containers.specs.inner.Rings.{Nodes, next_of, walk, rings_from, AreRings}
use Rattle.pfl_containers.proofs.Links.{Holds-changed, count-get}
use Rattle.pfl_containers.proofs.Paths.{walk-path, path-kept}

-- what is true of a list that was set, and of the others, is true of each
pub each-set : {L : Type 0} (P : ℕ → L → Type 0) (xs : List L) (k : ℕ) (y d : L) → k < length xs → P k y
    → ((r : ℕ) → r < length xs → r ≢ k → P r (get_or xs r d)) → (r : ℕ) → r < length (set xs k y) → P r (get_or (set xs k y) r d)
each-set P xs k y d h here others r within = elim (cases_eq r k) [
  | inl same ↦ subst (λ n. P n (get_or (set xs k y) n d)) (sym same) (subst (P k) (sym (get_or-set_same xs k y d h)) here)
  | inr other ↦ subst (P r) (sym (get_or-set_other xs k r y d other)) (others r (omega (arith, length-set xs k y)) other)
]

module _ {V : Type 0} where
  -- rings as the walks find them
  rings_from-each : (nodes : Nodes) (values : List V) (rings : List (List (Link V))) (s : ℕ)
      → ((r : ℕ) → r < length rings → walk nodes values (length values) (next_of nodes (s + r)) ≡ get_or rings r [])
      → rings_from nodes values s (length rings) ≡ rings
  rings_from-each nodes values [] s each = refl
  rings_from-each nodes values (l ∷ rings) s each =
      let first : walk nodes values (length values) (next_of nodes s) ≡ l =
      subst (λ n. walk nodes values (length values) (next_of nodes n) ≡ l) (add-zero s) (each zero (omega arith)) in
      ap (λ (m : List (Link V)). m ∷ rings_from nodes values (suc s) (length rings)) first
      ∙ ap (λ (ms : List (List (Link V))). l ∷ ms) (rings_from-each nodes values rings (suc s)
      (λ r h. let moved : s + suc r ≡ suc s + r = omega arith
      in subst (λ n. walk nodes values (length values) (next_of nodes n) ≡ get_or rings r []) moved (each (suc r) (omega arith))))

  pub rings_from-are : (nodes : Nodes) (values : List V) (limit loose : ℕ) (rings : List (List (Link V)))
      → AreRings nodes values limit loose rings → length values ≤ limit → count_of rings ≤ length values → rings_from nodes values limit (length rings) ≡ rings
  rings_from-are nodes values limit loose rings a few fuel = rings_from-each nodes values rings limit
      (λ r h. let ring = a.each r h in
      let enough : length (get_or rings r []) ≤ length values = omega (arith, count-get rings r) in
      walk-path nodes values r (limit + r) (get_or rings r []) (limit + r) (length values) ring.path ring.held enough
      (slice_get_past values (limit + r) (omega arith)))

-- The loose slot has another node.
pub rings-renewed : {V : Type 0} (old new : Nodes) (values : List V) (limit x : ℕ) (rings : List (List (Link V)))
    → AreRings old values limit x rings → x < limit
    → ((i : ℕ) → i ≢ x → new i ≡ old i) → AreRings new values limit x rings
rings-renewed old new values limit x rings a below same = record {
  each = λ r h. let ring = a.each r h in let head : limit + r ≢ x = λ e. absurd (omega arith) in record {
    path = path-kept old new x same r (limit + r) (get_or rings r []) (limit + r) ring.path ring.apart head head;
    distinct = ring.distinct;
    held = ring.held;
    apart = ring.apart;
  };
  within = λ y h ne. omega (arith, a.within y h ne, ap (λ n. n.ring) (same y ne));
  stands = λ y h ne lacks. a.stands y h ne (subst (λ r. Lacks y (get_or rings r [])) (ap (λ n. n.ring) (same y ne)) lacks);
}

-- A value is written at the loose slot.
pub rings-written : {V : Type 0} (nodes : Nodes) (old new : List V) (limit x : ℕ) (rings : List (List (Link V))) → AreRings nodes old limit x rings
    → ((i : ℕ) (v : V) → i ≢ x → slice_get old i ≡ Some v → slice_get new i ≡ Some v) → ((y : ℕ) → y < length new → y ≢ x → y < length old)
    → AreRings nodes new limit x rings
rings-written nodes old new limit x rings a keep below = record {
  each = λ r h. let ring = a.each r h in record {
    path = ring.path;
    distinct = ring.distinct;
    held = Holds-changed old new x (get_or rings r []) keep ring.apart ring.held;
    apart = ring.apart;
  };
  within = λ y h ne. a.within y (below y h ne) ne;
  stands = λ y h ne. a.stands y (below y h ne) ne;
}
