-- What a search of a tree finds. `found` is its answer, and the tree has at most as many entries as the search has steps.
-- This project's profile.
use Rattle.std.specs.Prelude.{◌≡◌, ◌-◌, ◌≤◌, ℕ, List, length, find, Option, Some, None, slice_get}
use Rattle.std.specs.declared.cmp.Ordering.{Ordering}
use Rattle.std.specs.Option.{option_map}
use Rattle.std.specs.Ordering.{is_lt}
use Rattle.std.specs.FinMap.Entries.{by_order, is_sorted}
use Rattle.std.proofs.Common.{T}
use Rattle.pfl_containers.specs.declared.order.node.Node.{Node}
use Rattle.pfl_containers.specs.inner.Trees.{Tree, leaf, fork, entries, Holds}

-- the node that a comparison with each on the way leads to, and its place
abbrev pub under : {K V : Type 0} → (K → K → Ordering) → Tree K V → K → Option (ℕ × Node K V)
under R leaf q = None
under R (fork l i n r) q = by_order (R q n.key) (under R l q) (Some (i, n)) (under R r q)

module _ {K V : Type 0} where
  -- the place of the node with the key q
  pub record Finds (R : K → K → Ordering) (nodes : List (Node K V)) (link : ℕ) (q : K) (steps : ℕ) (found : Option ℕ) : Type 0 where
    pub is : (t : Tree K V) → Holds nodes t link → length (entries t) ≤ steps → found ≡ option_map (λ p. p.0) (under R t q)

  -- the first entry
  pub record IsFirst (nodes : List (Node K V)) (link : ℕ) (steps : ℕ) (found : Option (K × V)) : Type 0 where
    pub is : (t : Tree K V) → Holds nodes t link → length (entries t) ≤ steps → found ≡ slice_get (entries t) 0

  -- the last entry
  pub record IsLast (nodes : List (Node K V)) (link : ℕ) (steps : ℕ) (found : Option (K × V)) : Type 0 where
    pub is : (t : Tree K V) → Holds nodes t link → length (entries t) ≤ steps → found ≡ slice_get (entries t) (length (entries t) - 1)

  -- the first entry above the key q
  pub record IsNext (R : K → K → Ordering) (nodes : List (Node K V)) (link : ℕ) (q : K) (steps : ℕ) (found : Option (K × V)) : Type 0 where
    pub is : (t : Tree K V) → Holds nodes t link → length (entries t) ≤ steps → T (is_sorted R (entries t)) → found ≡ find (λ e. is_lt (R q e.0)) (entries t)
