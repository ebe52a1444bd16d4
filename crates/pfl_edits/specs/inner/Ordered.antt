-- Where a row stands among rows in the strict order of their keys, and where one would.
use Rattle.std.specs.Prelude.{◌≡◌, List, [], ◌∷◌, ◌<◌, ℕ, suc, ◌++◌, length, take, drop, slice_index_or, ◌≤◌}
use Rattle.std.specs.declared.cmp.Ordering.{Ordering}
use Rattle.std.specs.declared.cmp.Ordering.TheVariants.{Less}
use Rattle.pfl_edits.specs.Ordered.{IsBelow}

-- the key q is above each row's
abbrev pub IsAbove : {K X : Type 0} → (K → K → Ordering) → (X → K) → K → List X → Type 0
IsAbove R key q [] = Unit {0}
IsAbove R key q (x ∷ xs) = (R (key x) q ≡ Less) × IsAbove R key q xs

-- the row with the key q stands at place i
pub record StandsIn {K X : Type 0} (key : X → K) (rows : List X) (q : K) (i : ℕ) : Type 0 where
  pub row : X
  pub split : rows ≡ take i rows ++ row ∷ drop (suc i) rows
  pub within : i < length rows
  pub at : (d : X) → slice_index_or rows i d ≡ row
  pub named : key row ≡ q

-- no row has the key q, and one with it would stand at place i
pub record IsGap {K X : Type 0} (R : K → K → Ordering) (key : X → K) (rows : List X) (q : K) (i : ℕ) : Type 0 where
  pub within : i ≤ length rows
  pub before : IsAbove R key q (take i rows)
  pub behind : IsBelow R key q (drop i rows)
