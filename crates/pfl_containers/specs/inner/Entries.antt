-- Slots of a table, each free or with an entry: a key and what stands under it. R is the order of the keys.
use Rattle.std.specs.Prelude.{◌≡◌, ℕ, List, [], ◌∷◌, slice_index_or, Option, Some, None}
use Rattle.std.specs.Ordering.{eq_by_cmp}
use Rattle.std.specs.declared.cmp.Ordering.{Ordering}
use Rattle.std.proofs.Common.{cond}
use Rattle.pfl_edits.specs.Maps as maps
use Rattle.pfl_edits.specs.Maps.{Map}

-- the slot at a place, and past the end a free one
abbrev pub slot : {K V : Type 0} → List (Option (K × V)) → ℕ → Option (K × V)
slot slots place = slice_index_or slots place None

-- the value of the first entry with the key
abbrev pub value_at : {K V : Type 0} → (K → K → Ordering) → List (Option (K × V)) → K → Option V
value_at R [] q = None
value_at R (None ∷ slots) q = value_at R slots q
value_at R (Some e ∷ slots) q = cond (eq_by_cmp R q e.0) (Some e.1) (value_at R slots q)

-- the entries of the slots, by their keys
abbrev pub slot_map : {K V : Type 0} (R : K → K → Ordering) → List (Option (K × V)) → Map R V
slot_map R [] = maps.empty
slot_map R (None ∷ slots) = slot_map R slots
slot_map R (Some e ∷ slots) = maps.insert (slot_map R slots) e.0 e.1

-- no two entries have one key
abbrev pub Distinct : {K V : Type 0} → (K → K → Ordering) → List (Option (K × V)) → Type 0
Distinct R [] = Unit {0}
Distinct R (None ∷ slots) = Distinct R slots
Distinct R (Some e ∷ slots) = (value_at R slots e.0 ≡ None) × Distinct R slots

-- no gap
abbrev pub NoGap : ℕ → Type 0
NoGap i = ⊥

-- a gap at this place alone
abbrev pub GapAt : ℕ → ℕ → Type 0
GapAt place i = i ≡ place
