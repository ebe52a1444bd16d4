-- A list of rows, each under a key of its own, as a map. R is the order of the keys, and `key` says the key of a row.
-- This project's profile.
use Rattle.std.specs.Prelude.{List, [], ◌∷◌}
use Rattle.std.specs.declared.cmp.Ordering.{Ordering}
use Rattle.pfl_edits.specs.Maps as maps
use Rattle.pfl_edits.specs.Maps.{Map}

-- the rows by their keys
abbrev pub map_of : {K X : Type 0} (R : K → K → Ordering) → (X → K) → List X → Map R X
map_of R key [] = maps.empty
map_of R key (x ∷ xs) = maps.insert (map_of R key xs) (key x) x
