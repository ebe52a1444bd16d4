-- Names that are asked for, and the map of them. No contract of a public call cites this.
use Rattle.std.specs.Prelude.{◌≤◌, ℕ, List}
use Rattle.pfl_base.specs.declared.state_name.StateName.{StateName}
use Rattle.pfl_containers.specs.declared.by_name.ByName.{ByName}
use Rattle.pfl_containers.specs.NameKeys.{by_name_cmp}
use Rattle.pfl_containers.specs.OrderEntries.{EntryList, map_of}
use Rattle.pfl_containers.specs.SlotIndexes.{IsIndexOf}

-- the names in the order in which they were listed, and how many there is room for
pub record Asked : Type 0 where
  pub listed : List StateName
  pub limit : ℕ

-- the key that a name stands under: itself
abbrev pub as_key : StateName → ByName
as_key n = record { 0 = n }

-- the map has a key for each name and no other, no name is listed twice, and there is as much room for names as for keys
pub record AreAsked (listed : List StateName) (capacity : ℕ) (names : EntryList ByName (Unit {0})) : Type 0 where
  pub index : IsIndexOf by_name_cmp as_key (λ _. tt) listed (map_of by_name_cmp names.list)
  pub room : names.limit ≤ capacity
