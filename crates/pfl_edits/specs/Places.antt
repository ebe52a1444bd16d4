-- A position of a list, counted from 0, as a place that an edit may name. None there means that the entry is absent, and those
-- after it move by one. This project's profile.
use Rattle.std.specs.Prelude.{◌≡◌, ◌≤◌, ℕ, List, length, Option, Some, None, slice_get, slice_set}
use Rattle.std.specs.List.{insert, remove}

-- what stands at a position: the entry, or none, at one that is not past the end
abbrev pub StandsAt : {X : Type 0} → List X → ℕ → Option X → Type 0
StandsAt xs i None = i ≤ length xs
StandsAt xs i (Some x) = slice_get xs i ≡ Some x

-- the list with its position changed from what was there to what is
abbrev pub with_position : {X : Type 0} → List X → ℕ → Option X → Option X → List X
with_position xs i None None = xs
with_position xs i None (Some new) = insert xs i new
with_position xs i (Some was) None = remove xs i
with_position xs i (Some was) (Some new) = slice_set xs i new
