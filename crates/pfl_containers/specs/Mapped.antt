-- A finite map with each value replaced by what a function makes of it. This project's profile.
use Rattle.std.specs.Prelude.{map}
use Rattle.std.specs.declared.cmp.Ordering.{Ordering}
use Rattle.pfl_edits.specs.Maps as maps
use Rattle.pfl_edits.specs.Maps.{Map}

-- an entry with its value replaced
abbrev pub at_value : {K X Y : Type 0} → (X → Y) → K × X → K × Y
at_value f e = (e.0, f e.1)

-- the map with each value replaced
unfoldable pub map_values : {K X Y : Type 0} {R : K → K → Ordering} → (X → Y) → Map R X → Map R Y
map_values f m = maps.from_sorted (map (at_value f) (maps.entries m))
