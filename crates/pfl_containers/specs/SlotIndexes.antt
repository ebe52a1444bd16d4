-- What a map has of values, by a key of each: the slots of the links where they stand, say.
use Rattle.std.specs.Prelude.{◌≡◌, ℕ, List, None}
use Rattle.std.specs.declared.cmp.Ordering.{Ordering}
use Rattle.std.specs.Ordering.{nat_cmp}
use Rattle.pfl_edits.specs.Maps.{Map}
use Rattle.pfl_edits.specs.Rows.{map_of}
use Rattle.pfl_edits.proofs.ForCallers.{row_at, Distinct}
use Rattle.pfl_containers.specs.Lists.{Link}
use Rattle.pfl_containers.specs.Mapped.{map_values}

-- the key of a link is that of its value
abbrev pub key_of : {V K : Type 0} → (V → K) → Link V → K
key_of key l = key l.value

-- what is made of each value, by a key of the value: so an index has it, and no two values have one key
pub record IsIndexOf {X K Y : Type 0} (R : K → K → Ordering) (key : X → K) (made : X → Y) (xs : List X) (m : Map R Y) : Type 0 where
  pub is : m ≡ map_values made (map_of R key xs)
  pub apart : Distinct R key xs

-- the map has the slot of each value under the value's key
abbrev pub IsIndex : {V K : Type 0} (R : K → K → Ordering) → (V → K) → List (Link V) → Map R ℕ → Type 0
IsIndex R key = IsIndexOf R (key_of key) (λ l. l.slot)

-- no value has this key
abbrev pub HasNone : {V K : Type 0} (R : K → K → Ordering) → (V → K) → List (Link V) → K → Type 0
HasNone R key links q = row_at R (key_of key) links q ≡ None

-- what a map has of values at slots: under each slot the tag of the value's key, of which no two values have the same
pub record IsTagged {V K : Type 0} (R : K → K → Ordering) (key : V → K) (tag : K → ℕ) (links : List (Link V)) (m : Map nat_cmp ℕ) : Type 0 where
  pub index : IsIndexOf nat_cmp (λ l. l.slot) (λ l. tag (key l.value)) links m
  pub apart : Distinct R (key_of key) links
