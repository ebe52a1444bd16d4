-- Tapes: edits of one value one after another, of which those above a mark are taken back. This project's profile.
--
-- A mark is the length that a tape had: the edits below it stand, and those above it were recorded since.
use Rattle.std.specs.Prelude.{◌≡◌, ◌≤◌, ℕ, List, length, take, drop}
use Rattle.pfl_edits.specs.Changes.{back}

-- what contracts see of a tape: its edits, the oldest first, and for how many more there is room
pub record Taped (E : Type 0) : Type 0 where
  pub list : List E
  pub spare : ℕ

-- the edits below the mark
abbrev pub below : {E : Type 0} → ℕ → List E → List E
below mark es = take mark es

-- the edits above it
abbrev pub above : {E : Type 0} → ℕ → List E → List E
above mark es = drop mark es

-- the value was on its way back to the mark: the edits above one that is not below it are taken back
abbrev pub IsSomeWayBack : {S E : Type 0} → (E → S → S) → ℕ → List E → S → S → Type 0
IsSomeWayBack put_back mark es old new = (k : ℕ) × (mark ≤ k) × (k ≤ length es) × (new ≡ back put_back (above k es) old)
