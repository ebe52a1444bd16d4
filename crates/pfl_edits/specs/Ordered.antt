-- Rows in the strict order of their keys. R is the order of the keys, and `key` says the key of a row.
-- This project's profile.
use Rattle.std.specs.Prelude.{◌≡◌, ◌≤◌, ℕ, List, [], ◌∷◌, length}
use Rattle.std.specs.declared.cmp.Ordering.{Ordering}
use Rattle.std.specs.declared.cmp.Ordering.TheVariants.{Less}

-- the key q is below each row's
abbrev pub IsBelow : {K X : Type 0} → (K → K → Ordering) → (X → K) → K → List X → Type 0
IsBelow R key q [] = Unit {0}
IsBelow R key q (x ∷ xs) = (R q (key x) ≡ Less) × IsBelow R key q xs

-- the keys rise from row to row
abbrev pub IsRising : {K X : Type 0} → (K → K → Ordering) → (X → K) → List X → Type 0
IsRising R key [] = Unit {0}
IsRising R key (x ∷ xs) = IsBelow R key (key x) xs × IsRising R key xs

-- what contracts see of a list of rows: its rows, in the order of their keys, and for how many there is room
pub record RowList (X : Type 0) : Type 0 where
  pub list : List X
  pub limit : ℕ

-- a list of rows: their keys rise, and there are at most as many as there is room for
pub record AreRows {K X : Type 0} (R : K → K → Ordering) (key : X → K) (rows : RowList X) : Type 0 where
  pub rising : IsRising R key rows.list
  pub few : length rows.list ≤ rows.limit
