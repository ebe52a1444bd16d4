-- The entries of an arena, and the step from one to the next.
use Rattle.std.specs.Prelude.{◌≡◌, ℕ, zero, suc, List, [], ◌∷◌, Option, Some, None, MatchOption, slice_get}
use Rattle.std.specs.declared.cmp.Ordering.{Ordering}
use Rattle.pfl_containers.specs.declared.order.node.Node.{Node}
use Rattle.pfl_containers.specs.declared.order.arena.Arena.{Arena}
use Rattle.pfl_containers.specs.inner.Trees.{Tree, leaf, fork, entries}
use Rattle.pfl_containers.specs.OrderEntries.{behind}

-- what is found is the first of the entries above a key, or of all, and the others are above it
abbrev pub IsNextBehind : {K V : Type 0} → (K → K → Ordering) → Option K → List (K × V) → Option (K × V) → Type 0
IsNextBehind R seen es found = MatchOption found (behind R seen es ≡ []) (λ e. behind R seen es ≡ e ∷ behind R (Some e.0) es)

-- the tree at a link, as far down as there are steps
unfoldable pub tree_at : {K V : Type 0} → List (Node K V) → ℕ → ℕ → Tree K V
tree_at nodes zero link = leaf
tree_at nodes (suc steps) link = elim (slice_get nodes link) [ None ↦ leaf | Some n ↦ fork (tree_at nodes steps n.left) link n (tree_at nodes steps n.right) ]

-- the entries of an arena
abbrev pub listed : {K V A : Type 0} → Arena K V A → List (K × V)
listed a = entries (tree_at a.nodes.items a.len a.root)
