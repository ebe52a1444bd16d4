-- The states of a table, and the edits of it.
use Rattle.std.specs.Prelude.{[], ◌∷◌, Option, refl, ◌≡◌, map}
use Rattle.std.specs.Option.{option_map}
use Rattle.std.proofs.Common.{ap, ◌∙◌}
use Rattle.pfl_base.specs.declared.state_name.StateName.{StateName}
use Rattle.pfl_base.specs.Names.{name_cmp}
use Rattle.pfl_base.proofs.ForCallers.{names_total, names_exact}
use Rattle.pfl_edits.specs.Maps.{set_at}
use Rattle.pfl_edits.specs.Maps as maps
use Rattle.pfl_edits.proofs.ForCallers.{LeadsBack-one, get-set_at_same, set_at-back}
use Rattle.pfl_containers.specs.Mapped.{map_values}
use Rattle.pfl_containers.proofs.ForCallers.{get-map_values, map_values-set_at, len-map_values, values-map_values, keys-map_values, map_values-empty}
use Rattle.pfl_table.specs.declared.row.Row.{Row}
use Rattle.pfl_table.specs.Tables.{Table, IsTable, with_row, edit_of, Finds, put_back, TableLeadsBack, states_of}

-- the edit of what was set under a name leads back
pub edit_of-leads_back : (t : Table) (name : StateName) (at : Option Row) → IsTable t → TableLeadsBack (edit_of t name at ∷ []) t (with_row t name at)
edit_of-leads_back t name at is =
    LeadsBack-one Finds IsTable put_back (edit_of t name at) t (with_row t name at)
    (get-set_at_same names_total names_exact t.rows name at) is
    (ap (λ m. record { limit = t.limit; rows = m }) (set_at-back names_total names_exact t.rows name (maps.get t.rows name) at refl))

-- ---- the states of a table

-- what stands under a name
pub get-states_of : (t : Table) (name : StateName) → maps.get (states_of t) name ≡ option_map (λ r. r.state) (maps.get t.rows name)
get-states_of t name = get-map_values name_cmp (λ r. r.state) t.rows name

-- a row that is set sets its state
pub states_of-with_row : (t : Table) (name : StateName) (at : Option Row)
    → states_of (with_row t name at) ≡ set_at (states_of t) name (option_map (λ r. r.state) at)
states_of-with_row t name at = map_values-set_at names_total names_exact (λ r. r.state) t.rows name at

-- as many states as rows
pub len-states_of : (t : Table) → maps.len (states_of t) ≡ maps.len t.rows
len-states_of t = len-map_values name_cmp (λ r. r.state) t.rows

-- in the order of the names, they are those of the rows
pub values-states_of : (t : Table) → maps.values (states_of t) ≡ map (λ r. r.state) (maps.values t.rows)
values-states_of t = values-map_values name_cmp (λ r. r.state) t.rows

-- their names are those of the rows
pub keys-states_of : (t : Table) → maps.keys (states_of t) ≡ maps.keys t.rows
keys-states_of t = keys-map_values name_cmp (λ r. r.state) t.rows

-- a table without rows has none
pub states_of-empty : (t : Table) → t.rows ≡ maps.empty → states_of t ≡ maps.empty
states_of-empty t none = ap (map_values (λ r. r.state)) none ∙ map_values-empty name_cmp (λ r. r.state)
