-- Links in the order of a number that each value has, and where a number belongs among them. No contract of a public call cites
-- this.
use Rattle.std.specs.Prelude.{◌≡◌, ◌≢◌, ◌<◌, ℕ, List, [], ◌∷◌, ◌++◌, Option}
use Rattle.pfl_containers.specs.Lists.{Link, Lists, links_of, last_slot}

-- each link's number is above n
abbrev pub IsAbove : {V : Type 0} → (V → ℕ) → ℕ → List (Link V) → Type 0
IsAbove number n [] = Unit {0}
IsAbove number n (x ∷ links) = (n < number x.value) × IsAbove number n links

-- each link's number is below n
abbrev pub IsBelow : {V : Type 0} → (V → ℕ) → ℕ → List (Link V) → Type 0
IsBelow number n [] = Unit {0}
IsBelow number n (x ∷ links) = (number x.value < n) × IsBelow number n links

-- the numbers rise from link to link
abbrev pub IsRising : {V : Type 0} → (V → ℕ) → List (Link V) → Type 0
IsRising number [] = Unit {0}
IsRising number (x ∷ links) = IsAbove number (number x.value) links × IsRising number links

-- no link has the number n
abbrev pub HasNone : {V : Type 0} → (V → ℕ) → ℕ → List (Link V) → Type 0
HasNone number n [] = Unit {0}
HasNone number n (x ∷ links) = (number x.value ≢ n) × HasNone number n links

-- the new links are the old ones with one more among them, and their numbers rise
pub record InsertsInOrder {V : Type 0} (number : V → ℕ) (old new : List (Link V)) (x : Link V) : Type 0 where
  pub front : List (Link V)
  pub back : List (Link V)
  pub was : old ≡ front ++ back
  pub is : new ≡ front ++ x ∷ back
  pub rising : IsRising number new

-- the gap of a list after a slot, or in front of its first link, in which the number n belongs
pub record OrderedGap {V : Type 0} (number : V → ℕ) (n : ℕ) (c : Lists V) (list : ℕ) (behind : Option ℕ) : Type 0 where
  pub front : List (Link V)
  pub back : List (Link V)
  pub split : links_of c list ≡ front ++ back
  pub ends : last_slot front ≡ behind
  pub below : IsBelow number n front
  pub above : IsAbove number n back
