-- Balanced trees, and what each join and each change makes of how deep they are. A height is a byte, so each says so of trees
-- that are less deep than 255. This project's profile.
use Rattle.std.specs.Prelude.{◌≡◌, ℕ, zero, suc, ◌+◌, ◌≤◌, ◌<◌, ◌^◌, max, List, length, None, Some, slice_get}
use Rattle.pfl_containers.specs.declared.order.node.Node.{Node}
use Rattle.pfl_containers.specs.inner.Trees.{Tree, leaf, fork, entries, Joins}

-- what the node at a link says of how deep the tree there is
abbrev pub height_of : {K V : Type 0} → List (Node K V) → ℕ → ℕ
height_of nodes link = elim (slice_get nodes link) [ None ↦ 0 | Some n ↦ n.height ]

-- this is the height of a node whose sides are d and e deep, neither more than one deeper than the other
abbrev pub FitsSides : ℕ → ℕ → ℕ → Type 0
FitsSides height d e = (height ≡ max d e + 1) × (d ≤ e + 1) × (e ≤ d + 1)

module _ {K V : Type 0} where
  -- how many nodes the longest way down has
  abbrev pub depth : Tree K V → ℕ
  depth leaf = 0
  depth (fork l i n r) = max (depth l) (depth r) + 1

  -- each node has its tree's depth as its height, and neither of its sides is more than one deeper than the other
  abbrev pub IsBalanced : Tree K V → Type 0
  IsBalanced leaf = Unit {0}
  IsBalanced (fork l i n r) =
      (n.height ≡ max (depth l) (depth r) + 1) × (depth l ≤ depth r + 1) × (depth r ≤ depth l + 1) × IsBalanced l × IsBalanced r

  -- the two sides are balanced and this deep, and the node has the tree's depth as its height
  abbrev pub HasSides : ℕ → ℕ → Tree K V → Type 0
  HasSides d e leaf = ⊥
  HasSides d e (fork l i n r) = (n.height ≡ max d e + 1) × (depth l ≡ d) × (depth r ≡ e) × IsBalanced l × IsBalanced r

  -- the trees l and r become the sides of one, t
  pub record Links (l r t : Tree K V) : Type 0 where
    pub sides : IsBalanced l → IsBalanced r → depth l < 255 → depth r < 255 → HasSides (depth l) (depth r) t

  -- the sides of l, d and e deep, are parted, and the right one goes to r
  pub record TurnsRight (l r t : Tree K V) : Type 0 where
    pub sides : (d e : ℕ) → HasSides d e l → IsBalanced r
        → e ≤ depth r + 1 → depth r ≤ e + 1 → d < 255 → max e (depth r) < 254 → HasSides d (max e (depth r) + 1) t

  -- the sides of r, d and e deep, are parted, and the left one goes to l
  pub record TurnsLeft (l r t : Tree K V) : Type 0 where
    pub sides : (d e : ℕ) → IsBalanced l → HasSides d e r
        → depth l ≤ d + 1 → d ≤ depth l + 1 → e < 255 → max (depth l) d < 254 → HasSides (max (depth l) d + 1) e t

  -- the tree u, of t, has a left side that is no less deep than its right one
  pub record LeansLeft (t u : Tree K V) : Type 0 where
    pub sides : IsBalanced t → 0 < depth t → depth t ≤ 255
        → (d : ℕ) × (e : ℕ) × HasSides d e u × (d + 1 ≡ depth t) × (e ≤ d) × (d ≤ e + 2)

  -- the tree u, of t, has a right side that is no less deep than its left one
  pub record LeansRight (t u : Tree K V) : Type 0 where
    pub sides : IsBalanced t → 0 < depth t → depth t ≤ 255
        → (d : ℕ) × (e : ℕ) × HasSides d e u × (e + 1 ≡ depth t) × (d ≤ e) × (e ≤ d + 2)

  -- A balanced tree of two whose depths are l and r. It is one deeper than each of them, or, where one is two deeper than the other, it
  -- may be as deep as that one.
  pub record IsJoined (l r : ℕ) (t : Tree K V) : Type 0 where
    pub balanced : IsBalanced t
    pub least : max l r ≤ depth t
    pub most : depth t ≤ max l r + 1
    pub near : l ≤ r + 1 → r ≤ l + 1 → depth t ≡ max l r + 1

  -- the trees l and r become one, where one is at most two deeper than the other
  pub record Balances (l r t : Tree K V) : Type 0 where
    pub joined : IsBalanced l → IsBalanced r → depth l < 255 → depth r < 255
        → depth l ≤ depth r + 2 → depth r ≤ depth l + 2 → IsJoined (depth l) (depth r) t

  -- the same, where the node of the two has the height that it had while its left tree was another one, this deep
  pub record BalancesLeft (was height : ℕ) (l r t : Tree K V) : Type 0 where
    pub joined : IsBalanced l → IsBalanced r → depth l < 255 → depth r < 255
        → depth l ≤ depth r + 2 → depth r ≤ depth l + 2 → FitsSides height was (depth r) → IsJoined (depth l) (depth r) t

  -- and where its right tree was another one
  pub record BalancesRight (was height : ℕ) (l r t : Tree K V) : Type 0 where
    pub joined : IsBalanced l → IsBalanced r → depth l < 255 → depth r < 255
        → depth l ≤ depth r + 2 → depth r ≤ depth l + 2 → FitsSides height (depth l) was → IsJoined (depth l) (depth r) t

  -- the node at the place and the trees that it names become one, where its left tree, which was this deep, is the one at `left` now
  pub record TakesLeft (nodes new : List (Node K V)) (place left was link : ℕ) : Type 0 where
    pub joins : (node : Node K V) → slice_get nodes place ≡ Some node → Joins nodes new place (record node { left = left }) (BalancesLeft was node.height) link

  -- and where its right tree is the one at `right` now
  pub record TakesRight (nodes new : List (Node K V)) (place right was link : ℕ) : Type 0 where
    pub joins : (node : Node K V) → slice_get nodes place ≡ Some node
        → Joins nodes new place (record node { right = right }) (BalancesRight was node.height) link

  -- u, which is t with an entry more, is balanced, and may be one deeper
  pub record Grows (t u : Tree K V) : Type 0 where
    pub grown : length (entries t) < 2 ^ 32 → IsBalanced t → IsBalanced u × (depth t ≤ depth u) × (depth u ≤ depth t + 1)

  -- u, which is t with an entry less, is balanced, and may be one less deep
  pub record Shrinks (t u : Tree K V) : Type 0 where
    pub shrunk : length (entries t) < 2 ^ 32 → IsBalanced t → IsBalanced u × (depth u ≤ depth t) × (depth t ≤ depth u + 1)

  -- u, which is the sides l and r of a balanced tree without the node above them, is balanced, and may be one less deep than that tree
  pub record Unites (l r u : Tree K V) : Type 0 where
    pub united : length (entries l) < 2 ^ 32 → length (entries r) < 2 ^ 32 → IsBalanced l → IsBalanced r
        → depth l ≤ depth r + 1 → depth r ≤ depth l + 1
        → IsBalanced u × (max (depth l) (depth r) ≤ depth u) × (depth u ≤ max (depth l) (depth r) + 1)

-- the fewest entries of a balanced tree, by its depth: those of a side that is one less deep, those of a side that is two less deep,
-- and one. `few` and `next` are those of the depths 0 and 1.
abbrev pub fewest_from : ℕ → ℕ → ℕ → ℕ
fewest_from few next zero = few
fewest_from few next (suc depth) = fewest_from next (few + next + 1) depth

abbrev pub fewest : ℕ → ℕ
fewest = fewest_from 0 1
