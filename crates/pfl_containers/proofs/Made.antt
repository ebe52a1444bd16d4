-- New chains: no slot was used yet.
use Rattle.std.proofs.Common.{◌≡◌, ℕ, zero, suc, ◌+◌, ◌≤◌, ◌^◌, List, [], ◌∷◌, length, get_or, replicate, refl, sym, subst, arith}
use Rattle.std.proofs.lemmas.List.{length-replicate}
use Rattle.pfl_containers.specs.Lists.{Link, count_of}
use Rattle.pfl_containers.specs.inner.Rings.{Nodes, rings_from, IsRing, AreRings, AreAlone, IsKept}
use Rattle.pfl_containers.proofs.Kept.{kept-new}

module _ {V : Type 0} where
  nothing : (n i : ℕ) → get_or (replicate n (let l : List (Link V) = [] in l)) i [] ≡ []
  nothing zero i = refl
  nothing (suc n) zero = refl
  nothing (suc n) (suc i) = nothing n i

  no_links : (l : List (Link V)) (n : ℕ) → length l ≡ 0 → count_of (replicate n l) ≡ 0
  no_links l zero e = refl
  no_links l (suc n) e = omega (arith, no_links l n e)

  -- nodes that are alone are empty lists
  pub kept-alone : (nodes : Nodes) (limit lists : ℕ) → limit + suc lists ≤ 2 ^ 32 → (count : ℕ) → count ≡ suc lists → AreAlone nodes limit count
      → IsKept nodes (let v : List V = [] in v) limit lists 0 × (rings_from nodes (let v : List V = [] in v) (suc limit) lists ≡ replicate lists [])
  kept-alone nodes limit lists small count many alone =
      let none : List (List (Link V)) = replicate lists [] in
      let rings : AreRings nodes [] limit 0 ([] ∷ none) = record {
        each = λ r h. let empty : get_or ([] ∷ none) r [] ≡ [] = nothing (suc lists) r in subst (IsRing nodes [] 0 r (limit + r)) (sym empty) (record {
          path = alone r (omega (arith, length-replicate {A = List (Link V)} lists []));
          distinct = tt;
          held = tt;
          apart = tt;
        });
        within = λ x h ne. absurd (omega arith);
        stands = λ x h ne. absurd (omega arith);
      } in
      kept-new nodes [] limit lists 0 [] none small (omega arith) (length-replicate lists []) rings (omega (arith, no_links [] lists refl))
      (no_links [] lists refl)
