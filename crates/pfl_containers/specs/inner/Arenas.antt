-- What stands in an arena: a tree, and a tree of the places that are free. This project's profile.
use Rattle.std.specs.Prelude.{◌≡◌, ℕ, ◌+◌, ◌≤◌, ◌<◌, ◌^◌, List, length, Option, Some, vec_capacity}
use Rattle.std.specs.declared.cmp.Ordering.{Ordering}
use Rattle.std.specs.FinMap.Entries.{put, find, is_sorted}
use Rattle.std.proofs.Common.{T}
use Rattle.pfl_containers.specs.declared.order.node.Node.{Node}
use Rattle.pfl_containers.specs.declared.order.arena.Arena.{Arena}
use Rattle.pfl_containers.specs.inner.Trees.{Tree, entries, uses, once, Holds}
use Rattle.pfl_containers.specs.inner.Searches.{under}
use Rattle.pfl_containers.specs.inner.Changes.{without}
use Rattle.pfl_containers.specs.inner.Balances.{IsBalanced}

-- The tree stands at the root. The other places are free, all but `count` of them, which `held` names.
pub record Fills {K V : Type 0} (limit capacity : ℕ) (nodes : List (Node K V)) (root free : ℕ) (t : Tree K V) (held : ℕ → ℕ) (count : ℕ) : Type 0 where
  pub spare : Tree K V
  pub holds : Holds nodes t root
  pub spare_holds : Holds nodes spare free
  pub apart : (j : ℕ) → held j + (uses t j + uses spare j) ≤ 1
  pub counted : count + (length (entries t) + length (entries spare)) ≡ length nodes
  pub few : length nodes ≤ limit
  pub room : limit ≤ capacity
  pub short : limit < 2 ^ 32

-- no place is held
abbrev pub none_held : ℕ → ℕ
none_held j = 0

module _ {K V A : Type 0} (R : K → K → Ordering) where
  -- the arena has these entries, in the order of their keys and in a balanced tree, and room for `limit` of them
  pub record Stores (limit : ℕ) (a : Arena K V A) (es : List (K × V)) : Type 0 where
    pub tree : Tree K V
    pub fills : Fills limit (vec_capacity a.nodes) a.nodes.items a.root a.free tree none_held 0
    pub lists : entries tree ≡ es
    pub sorted : T (is_sorted R es)
    pub long : a.len ≡ length es
    pub balanced : IsBalanced tree

  -- the arena has some entries
  pub record IsArena (a : Arena K V A) : Type 0 where
    pub limit : ℕ
    pub es : List (K × V)
    pub stores : Stores limit a es

  -- there is room for an entry more
  pub record HasRoom (a : Arena K V A) : Type 0 where
    pub limit : ℕ
    pub es : List (K × V)
    pub stores : Stores limit a es
    pub less : length es < limit

  -- the tree is as it was, and the place is neither its own nor free
  pub record TakesPlace (old new : Arena K V A) (place : ℕ) : Type 0 where
    pub holding : (limit : ℕ) (es : List (K × V)) (s : Stores limit old es) → length es < limit
        → Fills limit (vec_capacity new.nodes) new.nodes.items new.root new.free s.tree (once place) 1
    pub within : place < length new.nodes.items
    pub long : new.len ≡ old.len

  -- the node of the key q is found, and its place
  pub record Locates (a : Arena K V A) (q : K) (found : Option (ℕ × Node K V)) : Type 0 where
    pub is : (limit : ℕ) (es : List (K × V)) (s : Stores limit a es) → found ≡ under R s.tree q

  -- the node at the place, which is the one of its key, has this value
  pub record Changes (old new : Arena K V A) (place : ℕ) (node : Node K V) (v : V) : Type 0 where
    pub stores : (limit : ℕ) (es : List (K × V)) (s : Stores limit old es) (q : K) → under R s.tree q ≡ Some (place, node) → Stores limit new (put R q v es)

  -- the value stands under the key, and what stood there is given
  pub record Gains (old new : Arena K V A) (k : K) (v : V) (former : Option V) : Type 0 where
    pub stores : (limit : ℕ) (es : List (K × V)) → Stores limit old es → length es < limit → Stores limit new (put R k v es) × (former ≡ find R k es)

  -- the entry of this key is gone, if there was one, whose value is given
  pub record Loses (old new : Arena K V A) (q : K) (former : Option V) : Type 0 where
    pub stores : (limit : ℕ) (es : List (K × V)) → Stores limit old es → Stores limit new (without R q es) × (former ≡ find R q es)

  -- the copy has the same entries
  pub record Copies (limit : ℕ) (a copied : Arena K V A) : Type 0 where
    pub stores : (es : List (K × V)) → Stores limit a es → Stores limit copied es
