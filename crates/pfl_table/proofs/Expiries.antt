-- Tables whose rows have the timeouts that a function says of their states: their rows, and the first to expire, follow from
-- their states.
use Rattle.std.specs.Prelude.{◌≡◌, ℕ, Some, Bool, ◌&&◌, ◌||◌, ◌==◌, nat_lt, true, false, List, [], ◌∷◌, map, refl, Option, None}
use Rattle.std.specs.List.{slice_get}
use Rattle.std.specs.Option.{option_map}
use Rattle.std.specs.Ordering.{is_lt}
use Rattle.std.proofs.Common.{cond, ap, ◌∙◌, sym}
use Rattle.pfl_base.specs.declared.state_name.StateName.{StateName}
use Rattle.pfl_base.specs.Names.{name_cmp}
use Rattle.pfl_base.specs.Lists.{put_before, in_order}
use Rattle.pfl_base.proofs.ForCallers.{names_total, names_exact}
use Rattle.pfl_edits.specs.Maps as maps
use Rattle.pfl_edits.proofs.ForCallers.{same_map}
use Rattle.pfl_rules.specs.declared.adaptive.Adaptive.{Adaptive}
use Rattle.pfl_rules.specs.Scaling.{scaled}
use Rattle.pfl_track.specs.declared.state.State.{State}
use Rattle.pfl_track.specs.Tracking.{expiry}
use Rattle.pfl_containers.specs.Mapped.{map_values}
use Rattle.pfl_containers.proofs.ForCallers.{get-map_values, values-map_values}
use Rattle.pfl_table.specs.declared.row.Row.{Row}
use Rattle.pfl_table.specs.Tables.{Table, states_of, row_before, first_expiring}
use Rattle.pfl_table.proofs.Tables.{get-states_of}

-- each row's timeout is what the function says of its state
pub record TimedBy (timeout : State → ℕ) (t : Table) : Type 0 where
  pub each : (name : StateName) (r : Row) → maps.get t.rows name ≡ Some r → r.timeout ≡ timeout r.state

-- the row of a state
abbrev pub row_of : (State → ℕ) → State → Row
row_of timeout s = record { state = s; timeout = timeout s }

-- by what the function says, then by name
abbrev pub state_before : (State → ℕ) → State → State → Bool
state_before due s u = nat_lt (due s) (due u) || ((due s == due u) && is_lt (name_cmp s.name u.name))

module _ {X Y : Type 0} (f : X → Y) (before : Y → Y → Bool) where
  put_before-map : (x : X) (xs : List X) → put_before before (f x) (map f xs) ≡ map f (put_before (λ a b. before (f a) (f b)) x xs)
  put_before-map x [] = refl
  put_before-map x (y ∷ ys) =
      elim (before (f x) (f y)) as (λ b. cond b (f x ∷ f y ∷ map f ys) (f y ∷ put_before before (f x) (map f ys))
      ≡ map f (cond b (x ∷ y ∷ ys) (y ∷ put_before (λ a b. before (f a) (f b)) x ys))) [
        | true ↦ refl
        | false ↦ ap (λ (zs : List Y). f y ∷ zs) (put_before-map x ys)
      ]

  -- images in order
  pub in_order-map : (xs : List X) → in_order before (map f xs) ≡ map f (in_order (λ a b. before (f a) (f b)) xs)
  in_order-map [] = refl
  in_order-map (x ∷ xs) = ap (put_before before (f x)) (in_order-map xs) ∙ put_before-map x (in_order (λ a b. before (f a) (f b)) xs)

first-map : {X Y : Type 0} (f : X → Y) (xs : List X) → slice_get (map f xs) 0 ≡ option_map f (slice_get xs 0)
first-map f [] = refl
first-map f (x ∷ xs) = refl

module _ (timeout : State → ℕ) (t : Table) (by : TimedBy timeout t) where
  -- under each name stands the row of the state there
  get-row_of : (name : StateName) → maps.get t.rows name ≡ option_map (row_of timeout) (maps.get (states_of t) name)
  get-row_of name = through (maps.get t.rows name) refl ∙ ap (option_map (row_of timeout)) (sym (get-states_of t name))
    where
      through : (at : Option Row) → maps.get t.rows name ≡ at → at ≡ option_map (row_of timeout) (option_map (λ r. r.state) at)
      through None is = refl
      through (Some r) is = ap (λ n. Some (record { state = r.state; timeout = n })) (by.each name r is)

  -- so its rows are those of its states
  rows_of_states : t.rows ≡ map_values (row_of timeout) (states_of t)
  rows_of_states = same_map names_total names_exact t.rows (map_values (row_of timeout) (states_of t))
      (λ name. get-row_of name ∙ sym (get-map_values name_cmp (row_of timeout) (states_of t) name))

  -- the first row to expire is that of the first state
  pub first_expiring-states : (a : Adaptive) (states : ℕ)
      → first_expiring a states t
      ≡ option_map (row_of timeout)
      (slice_get (in_order (state_before (λ s. expiry s (scaled (timeout s) a states))) (maps.values (states_of t))) 0)
  first_expiring-states a states =
      ap (λ m. slice_get (in_order (row_before a states) (maps.values m)) 0) rows_of_states
      ∙ (ap (λ rows. slice_get (in_order (row_before a states) rows) 0) (values-map_values name_cmp (row_of timeout) (states_of t))
      ∙ (ap (λ rows. slice_get rows 0) (in_order-map (row_of timeout) (row_before a states) (maps.values (states_of t)))
      ∙ first-map (row_of timeout) (in_order (state_before (λ s. expiry s (scaled (timeout s) a states))) (maps.values (states_of t)))))
