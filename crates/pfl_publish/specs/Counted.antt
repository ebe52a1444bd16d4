-- The rule of the count, and what each step shows (this project's profile).
use Rattle.std.specs.Prelude.{◌≡◌, ℕ, ◌+◌, ◌<◌, List, [], ◌∷◌}
use mathlib.Core.Option.{some}
use lib.ListN.{get_elem?}
use Rattle.atomic_table.specs.Table.{State, Me, Step}
use Rattle.pfl_publish.specs.declared.count.view.View.{View}

abbrev pub kept : ℕ → ℕ → ℕ → View
kept parts left right = record { parts = parts; left = left; right = right }

abbrev pub whole : ℕ → View
whole n = kept 2 n n

abbrev pub idle : View
idle = kept 0 0 0

abbrev pub left_half : View → View
left_half v = kept 1 v.left v.left

abbrev pub right_half : View → View
right_half v = kept 1 v.right v.right

abbrev pub united : View → View → View
united v w = kept (v.parts + w.parts) v.left w.left

-- the parts of all seats together
abbrev pub total : List View → ℕ
total [] = 0
total (v ∷ vs) = v.parts + total vs

-- One whole is live, or two halves, and all live counts are one number
pub record IsCounted {S : Type 0} (s : State S View) : Type 0 where
  pub count : ℕ
  pub parts : total s.views ≡ 2
  pub each : (seat : ℕ) (v : View) → get_elem? s.views seat ≡ some v → 0 < v.parts → (v.left ≡ count) × (v.right ≡ count)

module _ {S : Type 0} where
  abbrev pub Agrees : Step S → Me S View → ℕ → Me S View → Type 0
  Agrees st m n m' = (m' ≡ m) × (m.0.right ≡ m.0.left)

  abbrev pub GoesOn : Step S → Me S View → ℕ → Me S View → Type 0
  GoesOn st m n m' = m' ≡ (kept m.0.parts (m.0.left + 1) (m.0.right + 1), m.1)
