-- How chains are kept: rings of nodes, in which each node has the number of the node before it and of the one after it.
-- Ring 0 has the slots that were given back, and ring n + 1 is list n. Ring r begins and ends at its head, the node limit + r, which is no slot.
-- This project's profile.
use Rattle.std.specs.Prelude.{◌≡◌, ◌≢◌, ℕ, zero, suc, ◌+◌, ◌-◌, ◌<◌, ◌≤◌, ◌^◌, List, [], ◌∷◌, length, get_or, slice_get, Option, Some, None, cond}
use Rattle.std.specs.Prelude.{ltb, vec_capacity}
use Rattle.pfl_edits.specs.declared.in_order.Node.{Node}
use Rattle.pfl_edits.specs.Linked.{no_node}
use Rattle.pfl_containers.specs.declared.chains.rings.Rings.{Rings}
use Rattle.pfl_containers.specs.Lists.{Link, link, Lacks, Distinct, count_of}

-- the slot that a node is, if it is one
abbrev pub slot_of : ℕ → ℕ → Option ℕ
slot_of limit node = cond (ltb node limit) (Some node) None

-- nodes by their numbers
abbrev pub Nodes : Type 0
Nodes = ℕ → Node

-- below the limit these, and from it on the heads
abbrev pub nodes_at : ℕ → List Node → List Node → Nodes
nodes_at limit nodes heads i = cond (ltb i limit) (get_or nodes i no_node) (get_or heads (i - limit) no_node)

-- the nodes of rings
unfoldable pub node_of : {A : Type 0} → Rings A → Nodes
node_of rings = nodes_at rings.limit rings.nodes.items rings.heads.items

-- a node has this number: that of a slot that was ever used, or that of a head
pub record IsNumber (used limit heads i : ℕ) : Type 0 where
  pub below : i < limit + heads
  pub slot : i < limit → i < used

abbrev pub IsNode : {A : Type 0} → Rings A → ℕ → Type 0
IsNode rings i = IsNumber (length rings.nodes.items) rings.limit (length rings.heads.items) i

-- the node is that of a slot
pub record IsSlot {A : Type 0} (rings : Rings A) (i : ℕ) : Type 0 where
  pub used : i < length rings.nodes.items
  pub below : i < rings.limit

-- there are as many nodes, and room for as many
pub record AreSized {A : Type 0} (old new : Rings A) : Type 0 where
  pub limit : new.limit ≡ old.limit
  pub used : length new.nodes.items ≡ length old.nodes.items
  pub heads : length new.heads.items ≡ length old.heads.items
  pub room : vec_capacity new.nodes ≡ vec_capacity old.nodes

-- the node after a node
abbrev pub next_of : Nodes → ℕ → ℕ
next_of nodes i = (nodes i).next

-- the node before a node
abbrev pub previous_of : Nodes → ℕ → ℕ
previous_of nodes i = (nodes i).previous

-- the ring that a node is of
abbrev pub ring_of : Nodes → ℕ → ℕ
ring_of nodes i = (nodes i).ring

-- from node s through the links, which are of ring r, to node e
abbrev pub Path : {V : Type 0} → Nodes → ℕ → ℕ → List (Link V) → ℕ → Type 0
Path nodes r s [] e = (next_of nodes s ≡ e) × (previous_of nodes e ≡ s)
Path nodes r s (x ∷ links) e = (next_of nodes s ≡ x.slot) × (previous_of nodes x.slot ≡ s) × (ring_of nodes x.slot ≡ r) × Path nodes r x.slot links e

-- each link's value stands at its slot
abbrev pub Holds : {V : Type 0} → List V → List (Link V) → Type 0
Holds values [] = Unit {0}
Holds values (x ∷ links) = (slice_get values x.slot ≡ Some x.value) × Holds values links

-- the links on the way from node i to the first node that has no value, and at most n
abbrev pub walked : {V : Type 0} → ℕ → Option V → List (Link V) → List (Link V)
walked i None rest = []
walked i (Some value) rest = link i value ∷ rest

-- the links from node i on, at most n
abbrev pub walk : {V : Type 0} → Nodes → List V → ℕ → ℕ → List (Link V)
walk nodes values zero i = []
walk nodes values (suc n) i = walked i (slice_get values i) (walk nodes values n (next_of nodes i))

-- the links of n rings, the first of which begins at node s
abbrev pub rings_from : {V : Type 0} → Nodes → List V → ℕ → ℕ → List (List (Link V))
rings_from nodes values s zero = []
rings_from nodes values s (suc n) = walk nodes values (length values) (next_of nodes s) ∷ rings_from nodes values (suc s) n

-- ring r begins and ends at node s, and does not have the loose slot
pub record IsRing {V : Type 0} (nodes : Nodes) (values : List V) (loose r s : ℕ) (links : List (Link V)) : Type 0 where
  pub path : Path nodes r s links s
  pub distinct : Distinct links
  pub held : Holds values links
  pub apart : Lacks loose links

-- these are the rings, and each slot but the loose one stands in its ring
pub record AreRings {V : Type 0} (nodes : Nodes) (values : List V) (limit loose : ℕ) (rings : List (List (Link V))) : Type 0 where
  pub each : (r : ℕ) → r < length rings → IsRing nodes values loose r (limit + r) (get_or rings r [])
  pub within : (x : ℕ) → x < length values → x ≢ loose → ring_of nodes x < length rings
  pub stands : (x : ℕ) → x < length values → x ≢ loose → Lacks x (get_or rings (ring_of nodes x) []) → ⊥

-- each slot that was ever used has a node and a value, there is room for those of all slots, and each ring has a head
pub record Fits {A : Type 0} (rings : Rings A) (values capacity lists : ℕ) : Type 0 where
  pub used : length rings.nodes.items ≡ values
  pub heads : length rings.heads.items ≡ suc lists
  pub node_room : rings.limit ≤ vec_capacity rings.nodes
  pub value_room : rings.limit ≤ capacity

-- what is true of chains: their rings have each slot that was ever used, and `len` of these stand in the lists
pub record IsKept {V : Type 0} (nodes : Nodes) (values : List V) (limit lists len : ℕ) : Type 0 where
  pub small : limit + suc lists ≤ 2 ^ 32
  pub few : length values ≤ limit
  pub rings : AreRings nodes values limit (length values) (rings_from nodes values limit (suc lists))
  pub used : count_of (rings_from nodes values limit (suc lists)) ≡ length values
  pub linked : count_of (rings_from nodes values (suc limit) lists) ≡ len

-- the number of the node after a node is written
pub record SetsNext (old new : Nodes) (x n : ℕ) : Type 0 where
  pub here : next_of new x ≡ n
  pub other : (i : ℕ) → i ≢ x → next_of new i ≡ next_of old i
  pub previous : (i : ℕ) → previous_of new i ≡ previous_of old i
  pub rings : (i : ℕ) → ring_of new i ≡ ring_of old i

-- and that of the node before one
pub record SetsPrevious (old new : Nodes) (x n : ℕ) : Type 0 where
  pub here : previous_of new x ≡ n
  pub other : (i : ℕ) → i ≢ x → previous_of new i ≡ previous_of old i
  pub next : (i : ℕ) → next_of new i ≡ next_of old i
  pub rings : (i : ℕ) → ring_of new i ≡ ring_of old i

-- the slot that is next in turn has a node
pub record Grows {A : Type 0} (old new : Rings A) : Type 0 where
  pub limit : new.limit ≡ old.limit
  pub used : length new.nodes.items ≡ length old.nodes.items + 1
  pub heads : length new.heads.items ≡ length old.heads.items
  pub room : vec_capacity old.nodes ≤ vec_capacity new.nodes
  pub others : (i : ℕ) → i ≢ length old.nodes.items → node_of new i ≡ node_of old i

-- the node x is taken out from between its neighbours
pub record Unlinks (old new : Nodes) (x : ℕ) : Type 0 where
  pub next : next_of new (previous_of old x) ≡ next_of old x
  pub previous : previous_of new (next_of old x) ≡ previous_of old x
  pub other_next : (i : ℕ) → i ≢ previous_of old x → next_of new i ≡ next_of old i
  pub other_previous : (i : ℕ) → i ≢ next_of old x → previous_of new i ≡ previous_of old i
  pub rings : (i : ℕ) → ring_of new i ≡ ring_of old i

-- the node x is put into ring r, after the node p
pub record Inserts (old new : Nodes) (r x p : ℕ) : Type 0 where
  pub next_there : next_of new p ≡ x
  pub previous_here : previous_of new x ≡ p
  pub next_here : next_of new x ≡ next_of old p
  pub previous_there : previous_of new (next_of old p) ≡ x
  pub ring_here : ring_of new x ≡ r
  pub other_next : (i : ℕ) → i ≢ x → i ≢ p → next_of new i ≡ next_of old i
  pub other_previous : (i : ℕ) → i ≢ x → i ≢ next_of old p → previous_of new i ≡ previous_of old i
  pub other_ring : (i : ℕ) → i ≢ x → ring_of new i ≡ ring_of old i

-- a slot may be taken: fewer links stand in the lists than there is room for
pub record HasRoom {V : Type 0} (nodes : Nodes) (values : List V) (limit : ℕ) : Type 0 where
  pub lists : ℕ
  pub len : ℕ
  pub kept : IsKept nodes values limit lists len
  pub room : len < limit

-- a slot was taken from those in no list, and the value written there: it is loose, and the lists are as before
pub record Takes {V : Type 0} (old new : Nodes) (values now : List V) (limit lists slot : ℕ) (value : V) : Type 0 where
  pub few : length now ≤ limit
  pub there : slice_get now slot ≡ Some value
  pub free : List (Link V)
  pub rings : AreRings new now limit slot (free ∷ rings_from old values (suc limit) lists)
  pub used : length free + count_of (rings_from old values (suc limit) lists) + 1 ≡ length now

-- each of the first n heads is a ring of its own
abbrev pub AreAlone : Nodes → ℕ → ℕ → Type 0
AreAlone nodes limit n = (r : ℕ) → r < n → (next_of nodes (limit + r) ≡ limit + r) × (previous_of nodes (limit + r) ≡ limit + r)
