-- What an insertion and a removal make of a tree, which has at most as many entries as they have steps.
-- This project's profile.
use Rattle.std.specs.Prelude.{◌≡◌, ◌+◌, ◌≤◌, ◌<◌, ℕ, not, List, ◌∷◌, ◌++◌, length, Option, Some, None, MatchOption}
use Rattle.std.specs.declared.cmp.Ordering.{Ordering}
use Rattle.std.specs.Ordering.{eq_by_cmp}
use Rattle.std.specs.Option.{option_map}
use Rattle.std.specs.FinMap.Entries.{put, find, where_key, is_sorted}
use Rattle.std.proofs.Common.{T}
use Rattle.pfl_containers.specs.declared.order.node.Node.{Node}
use Rattle.pfl_containers.specs.declared.order.node.TheConstants.{NO_PLACE}
use Rattle.pfl_containers.specs.declared.order.changes.Grown.{Grown}
use Rattle.pfl_containers.specs.declared.order.changes.Parted.{Parted}
use Rattle.pfl_containers.specs.declared.order.changes.Taken.{Taken}
use Rattle.pfl_containers.specs.declared.order.changes.Remaining.{Remaining}
use Rattle.pfl_containers.specs.inner.Trees.{Tree, leaf, entries, uses, once, Holds, Makes}
use Rattle.pfl_containers.specs.inner.Balances.{Grows, Shrinks, Unites}

-- the entries but the one of the key q
abbrev pub without : {K V : Type 0} → (K → K → Ordering) → K → List (K × V) → List (K × V)
without R q = where_key R (λ k. not (eq_by_cmp R q k))

-- the place of the node that was taken out, if one was
abbrev pub given_up : {V : Type 0} → Option (Taken V) → ℕ → ℕ
given_up None j = 0
given_up (Some taken) j = once taken.place j

-- the place of an item, if nothing stood under its key
abbrev pub added : {V : Type 0} → Option V → ℕ → ℕ → ℕ
added None place j = once place j
added (Some former) place j = 0

module _ {K V : Type 0} where
  -- the item has no trees below it, and its place is its own
  pub record CanInsert (R : K → K → Ordering) (nodes : List (Node K V)) (t : Tree K V) (link : ℕ) (place : ℕ) (item : Node K V) (steps : ℕ) : Type 0 where
    pub holds : Holds nodes t link
    pub left : item.left ≡ NO_PLACE
    pub right : item.right ≡ NO_PLACE
    pub within : place < length nodes
    pub apart : (j : ℕ) → once place j + uses t j ≤ 1
    pub sorted : T (is_sorted R (entries t))
    pub deep : length (entries t) ≤ steps

  -- the tree has the item's value under its key, and takes the place if it had none there
  pub record HasItem (R : K → K → Ordering) (nodes new : List (Node K V)) (t : Tree K V) (place : ℕ) (item : Node K V) (grown : Grown V) : Type 0 where
    pub former : grown.former ≡ find R item.key (entries t)
    pub made : Makes nodes new (put R item.key item.value (entries t)) (λ j. added grown.former place j + uses t j) (Grows t) grown.link

  -- and so has the tree at a link
  pub record Inserts (R : K → K → Ordering) (nodes new : List (Node K V)) (from : ℕ) (place : ℕ) (item : Node K V) (steps : ℕ) (grown : Grown V) : Type 0 where
    pub makes : (t : Tree K V) → CanInsert R nodes t from place item steps → HasItem R nodes new t place item grown

  -- the tree gives the places up that `given` counts, and has these entries then
  pub record Sheds (nodes new : List (Node K V)) (t : Tree K V) (given : ℕ → ℕ) (es : List (K × V)) (link : ℕ) : Type 0 where
    pub others : ℕ → ℕ
    pub takes : (j : ℕ) → uses t j ≡ given j + others j
    pub made : Makes nodes new es others (Shrinks t) link

  -- the tree's first node is taken out of it
  pub record IsParted (nodes new : List (Node K V)) (t : Tree K V) (parted : Parted K V) : Type 0 where
    pub later : List (K × V)
    pub lists : entries t ≡ (parted.node.key, parted.node.value) ∷ later
    pub within : parted.place < length nodes
    pub sheds : Sheds nodes new t (once parted.place) later parted.rest

  pub record Parts (nodes new : List (Node K V)) (from : ℕ) (steps : ℕ) (parted : Option (Parted K V)) : Type 0 where
    pub makes : (t : Tree K V) → Holds nodes t from → ((j : ℕ) → uses t j ≤ 1) → length (entries t) ≤ steps
        → MatchOption parted ((t ≡ leaf) × (new ≡ nodes)) (IsParted nodes new t)

  -- the two trees become one
  pub record Merges (nodes new : List (Node K V)) (left right : ℕ) (steps : ℕ) (link : ℕ) : Type 0 where
    pub makes : (l r : Tree K V) → Holds nodes l left → Holds nodes r right → ((j : ℕ) → uses l j + uses r j ≤ 1) → length (entries r) ≤ steps
        → Makes nodes new (entries l ++ entries r) (λ j. uses l j + uses r j) (Unites l r) link

  -- the tree gives the node of the key q up, if it has one
  pub record LacksKey (R : K → K → Ordering) (nodes new : List (Node K V)) (q : K) (t : Tree K V) (left : Remaining V) : Type 0 where
    pub former : option_map (λ (taken : Taken V). taken.value) left.taken ≡ find R q (entries t)
    pub sheds : Sheds nodes new t (given_up left.taken) (without R q (entries t)) left.link

  -- and so does the tree at a link
  pub record Removes (R : K → K → Ordering) (nodes new : List (Node K V)) (from : ℕ) (q : K) (steps : ℕ) (left : Remaining V) : Type 0 where
    pub makes : (t : Tree K V) → Holds nodes t from → ((j : ℕ) → uses t j ≤ 1) → T (is_sorted R (entries t)) → length (entries t) ≤ steps
        → LacksKey R nodes new q t left
