-- The values on the way from a node are those of the links that a walk from there finds.
use Rattle.std.proofs.Common.{◌≡◌, ℕ, zero, suc, ◌+◌, ◌<◌, List, [], ◌∷◌, length, map, get_or, slice_get, Option, Some, None, refl, sym, ◌∙◌, ap}
use Rattle.std.proofs.Common.{arith, add-zero}
use Rattle.std.proofs.lemmas.Option.{slice_get_within}
use Rattle.pfl_edits.specs.declared.in_order.Node.{Node}
use Rattle.pfl_edits.specs.Linked.{entries_from, entry_then, next_of as next_in}
use Rattle.pfl_containers.specs.Lists.{value_of}
use Rattle.pfl_containers.specs.inner.Rings.{Nodes, next_of, walk, walked, rings_from}

module _ {V : Type 0} (nodes : Nodes) (values : List V) where
  -- where these are the nodes of the slots that have values
  module _ (items : List Node) (same : (i : ℕ) → i < length values → next_of nodes i ≡ next_in items i) where
    pub walk-entries : (n i : ℕ) → map value_of (walk nodes values n i) ≡ entries_from items values n i
    walk-entries zero i = refl
    walk-entries (suc n) i = step (slice_get values i) refl (walk-entries n (next_of nodes i))
      where
        step : (at : Option V) → slice_get values i ≡ at → map value_of (walk nodes values n (next_of nodes i)) ≡ entries_from items values n (next_of nodes i)
            → map value_of (walked i at (walk nodes values n (next_of nodes i))) ≡ entry_then at (entries_from items values n (next_in items i))
        step None e rest = refl
        step (Some v) e rest = ap (λ (vs : List V). v ∷ vs) (rest ∙ ap (entries_from items values n) (same i (slice_get_within values i v e)))

  -- a ring among those that the walks find
  pub rings_from-get : (s n k : ℕ) → k < n → get_or (rings_from nodes values s n) k [] ≡ walk nodes values (length values) (next_of nodes (s + k))
  rings_from-get s zero k h = absurd (omega arith)
  rings_from-get s (suc n) zero h = ap (λ m. walk nodes values (length values) (next_of nodes m)) (sym (add-zero s))
  rings_from-get s (suc n) (suc k) h =
      let moved : suc s + k ≡ s + suc k = omega arith in
      rings_from-get (suc s) n k (omega arith) ∙ ap (λ m. walk nodes values (length values) (next_of nodes m)) moved
