-- Trees that stand in an array of nodes. This project's profile.
use Rattle.std.specs.Prelude.{◌≡◌, ℕ, ◌+◌, ◌≤◌, ◌<◌, ◌==◌, List, [], ◌∷◌, ◌++◌, length, Some, slice_get}
use Rattle.std.proofs.Common.{cond}
use Rattle.pfl_containers.specs.declared.order.node.Node.{Node}
use Rattle.pfl_containers.specs.declared.order.node.TheConstants.{NO_PLACE}

-- a tree, with the place of each node
pub data Tree (K V : Type 0) : Type 0 where
  leaf : Tree K V
  fork : Tree K V → ℕ → Node K V → Tree K V → Tree K V

-- once, if the two places are one
abbrev pub once : ℕ → ℕ → ℕ
once i j = cond (i == j) 1 0

module _ {K V : Type 0} where
  -- the entries from left to right
  abbrev pub entries : Tree K V → List (K × V)
  entries leaf = []
  entries (fork l i n r) = entries l ++ (n.key, n.value) ∷ entries r

  -- how many nodes stand at a place
  abbrev pub uses : Tree K V → ℕ → ℕ
  uses leaf j = 0
  uses (fork l i n r) j = uses l j + (once i j + uses r j)

  -- the tree stands where the link says, which is no place for a tree without a node
  abbrev pub Holds : List (Node K V) → Tree K V → ℕ → Type 0
  Holds nodes leaf link = (link ≡ NO_PLACE) × (length nodes ≤ NO_PLACE)
  Holds nodes (fork l i n r) link = (link ≡ i) × (slice_get nodes i ≡ Some n) × Holds nodes l n.left × Holds nodes r n.right

-- Out of the array `nodes` came the array `new`, in which a tree with these entries stands at the link, of which `Says` holds.
-- It takes the places that `taken` counts, and the others are as they were.
pub record Makes {K V : Type 0} (nodes new : List (Node K V)) (es : List (K × V)) (taken : ℕ → ℕ) (Says : Tree K V → Type 0) (link : ℕ) : Type 0 where
  pub tree : Tree K V
  pub holds : Holds new tree link
  pub lists : entries tree ≡ es
  pub takes : (j : ℕ) → uses tree j ≡ taken j
  pub keeps : (j : ℕ) → taken j ≡ 0 → slice_get new j ≡ slice_get nodes j
  pub long : length new ≡ length nodes
  pub says : Says tree

-- the two trees stand where the node says, its place is neither's, and no place is taken twice
pub record CanJoin {K V : Type 0} (nodes : List (Node K V)) (l r : Tree K V) (place : ℕ) (node : Node K V) : Type 0 where
  pub left : Holds nodes l node.left
  pub right : Holds nodes r node.right
  pub within : place < length nodes
  pub apart : (j : ℕ) → uses l j + (once place j + uses r j) ≤ 1

-- the node and the trees that it names become one tree, and `Says` holds of those two and of it
pub record Joins {K V : Type 0} (nodes new : List (Node K V)) (place : ℕ) (node : Node K V)
    (Says : Tree K V → Tree K V → Tree K V → Type 0) (link : ℕ) : Type 0 where
  pub makes : (l r : Tree K V) → CanJoin nodes l r place node
      → Makes nodes new (entries l ++ (node.key, node.value) ∷ entries r) (λ j. uses l j + (once place j + uses r j)) (Says l r) link

-- the tree at the link is made one with the same entries at the same places, and `Says` holds of it and of that
pub record Steadies {K V : Type 0} (nodes new : List (Node K V)) (from : ℕ) (Says : Tree K V → Tree K V → Type 0) (link : ℕ) : Type 0 where
  pub makes : (t : Tree K V) → Holds nodes t from → ((j : ℕ) → uses t j ≤ 1) → Makes nodes new (entries t) (uses t) (Says t) link
