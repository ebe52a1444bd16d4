-- What contracts see of an ordered map. This project's profile.
use Rattle.std.specs.Prelude.{◌≤◌, ℕ, List, length, filter, Option, Some, None}
use Rattle.std.specs.declared.cmp.Ordering.{Ordering}
use Rattle.std.specs.Ordering.{is_lt}
use Rattle.std.specs.FinMap.Entries.{is_sorted}
use Rattle.std.proofs.Common.{T}
use Rattle.pfl_edits.specs.Maps as maps
use Rattle.pfl_edits.specs.Maps.{Map}

-- the entries, in the order of their keys, and for how many there is room
pub record EntryList (K V : Type 0) : Type 0 where
  pub list : List (K × V)
  pub limit : ℕ

-- the map of entries in order
abbrev pub map_of : {K V : Type 0} (R : K → K → Ordering) → List (K × V) → Map R V
map_of R es = maps.from_sorted es

-- the entries are in the order of their keys, and there are at most as many as there is room for
pub record AreEntries {K V : Type 0} (R : K → K → Ordering) (m : EntryList K V) : Type 0 where
  pub sorted : T (is_sorted R m.list)
  pub few : length m.list ≤ m.limit

-- the entries above a key, or all
abbrev pub behind : {K V : Type 0} → (K → K → Ordering) → Option K → List (K × V) → List (K × V)
behind R None es = es
behind R (Some q) es = filter (λ e. is_lt (R q e.0)) es
