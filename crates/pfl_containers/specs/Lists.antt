-- What contracts see of chains: their lists, each of links in order, and for how many links together there is room.
-- This project's profile.
use Rattle.std.specs.Prelude.{◌≡◌, ◌≢◌, ℕ, ◌+◌, ◌<◌, ◌≤◌, List, [], ◌∷◌, ◌++◌, length, get_or, set, Option, Some, None}

-- a link of a list: the number of its slot, and what stands there
pub record Link (V : Type 0) : Type 0 where
  pub slot : ℕ
  pub value : V

-- a link from its parts
abbrev pub link : {V : Type 0} → ℕ → V → Link V
link slot value = record { slot = slot; value = value }

-- what stands at a link
abbrev pub value_of : {V : Type 0} → Link V → V
value_of x = x.value

-- several lists in one room, and how many links it has room for
pub record Lists (V : Type 0) : Type 0 where
  pub lists : List (List (Link V))
  pub limit : ℕ

-- the links of one list
abbrev pub links_of : {V : Type 0} → Lists V → ℕ → List (Link V)
links_of c list = get_or c.lists list []

-- the same lists, but for one
abbrev pub with_links : {V : Type 0} → Lists V → ℕ → List (Link V) → Lists V
with_links c list links = record { lists = set c.lists list links; limit = c.limit }

-- how many links the lists have together
abbrev pub count_of : {V : Type 0} → List (List (Link V)) → ℕ
count_of [] = 0
count_of (links ∷ lists) = length links + count_of lists

-- the slot of the first link
abbrev pub first_slot : {V : Type 0} → List (Link V) → Option ℕ
first_slot [] = None
first_slot (x ∷ links) = Some x.slot

-- the slot of the last of these links, or this one where there is none
abbrev pub last_from : {V : Type 0} → ℕ → List (Link V) → ℕ
last_from slot [] = slot
last_from slot (x ∷ links) = last_from x.slot links

-- the slot of the last link
abbrev pub last_slot : {V : Type 0} → List (Link V) → Option ℕ
last_slot [] = None
last_slot (x ∷ links) = Some (last_from x.slot links)

-- no link has the slot
abbrev pub Lacks : {V : Type 0} → ℕ → List (Link V) → Type 0
Lacks slot [] = Unit {0}
Lacks slot (x ∷ links) = (x.slot ≢ slot) × Lacks slot links

-- no two links have one slot
abbrev pub Distinct : {V : Type 0} → List (Link V) → Type 0
Distinct [] = Unit {0}
Distinct (x ∷ links) = Lacks x.slot links × Distinct links

-- where a slot stands: in a list, with a value, between the links before it and those after
pub record Place {V : Type 0} (c : Lists V) (slot : ℕ) : Type 0 where
  pub list : ℕ
  pub within : list < length c.lists
  pub front : List (Link V)
  pub value : V
  pub back : List (Link V)
  pub split : links_of c list ≡ front ++ link slot value ∷ back

-- the gap of a list after a slot, or in front of its first link
pub record Gap {V : Type 0} (c : Lists V) (list : ℕ) (behind : Option ℕ) : Type 0 where
  pub front : List (Link V)
  pub back : List (Link V)
  pub split : links_of c list ≡ front ++ back
  pub ends : last_slot front ≡ behind

-- the slot stands in this list, with this value
abbrev pub StandsIn : {V : Type 0} → Lists V → ℕ → ℕ → V → Type 0
StandsIn c slot list value = (at : Place c slot) × (at.list ≡ list) × (at.value ≡ value)

-- what is true of all lists: there are at most as many links as the limit, and a slot is below it and stands in one place of one list
pub record AreLists {V : Type 0} (c : Lists V) : Type 0 where
  pub few : count_of c.lists ≤ c.limit
  pub below : (slot : ℕ) → Place c slot → slot < c.limit
  pub distinct : (list : ℕ) → list < length c.lists → Distinct (links_of c list)
  pub apart : (slot : ℕ) (a b : Place c slot) → a.list ≡ b.list
