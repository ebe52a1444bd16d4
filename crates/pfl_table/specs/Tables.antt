-- The table of states: a map from names, with one state for each wire key and each stack key (pf.c), and the edits of it.
use Rattle.std.specs.Prelude.{◌≡◌, ◌≤◌, ℕ, Bool, false, ◌&&◌, ◌||◌, ◌==◌, nat_lt, nat_le, find, List, codes, Option, Some, None, is_some, if◌then◌else◌, refl}
use Rattle.std.specs.List.{count_by, slice_get}
use Rattle.std.specs.Option.{option_map, option_map_or}
use Rattle.std.specs.Ordering.{is_lt}
use Rattle.std.specs.Coded.{Coded, code_by, coded×, coded_ℕ}
use Rattle.pfl_base.specs.Lists.{in_order}
use Rattle.pfl_base.specs.declared.direction.Dir.{Dir}
use Rattle.pfl_base.specs.declared.direction.Dir.TheVariants.{Inbound, Outbound}
use Rattle.pfl_base.specs.declared.flow.Key.{Key}
use Rattle.pfl_base.specs.declared.state_name.StateName.{StateName}
use Rattle.pfl_base.specs.Keys.{is_key}
use Rattle.pfl_base.specs.Names.{name_cmp, coded_state_name}
use Rattle.pfl_edits.specs.Changes.{LeadsBack}
use Rattle.pfl_edits.specs.Maps as maps
use Rattle.pfl_edits.specs.Maps.{Map, set_at}
use Rattle.pfl_rules.specs.declared.adaptive.Adaptive.{Adaptive}
use Rattle.pfl_rules.specs.Scaling.{scaled}
use Rattle.pfl_track.specs.declared.motion.Motion.{Motion}
use Rattle.pfl_track.specs.declared.state.State.{State}
use Rattle.pfl_track.specs.Motions.{with_motion}
use Rattle.pfl_track.specs.Tracking.{expiry}
use Rattle.pfl_containers.specs.Mapped.{map_values}
use Rattle.pfl_table.specs.declared.row.Row.{Row}
use Rattle.pfl_table.specs.declared.fault.PutFault.{PutFault}
use Rattle.pfl_table.specs.declared.fault.PutFault.TheVariants.{Full, NameInUse, WireInUse, StackInUse}
use Rattle.pfl_table.specs.declared.edit.TableEdit.{TableEdit}
use Rattle.pfl_table.specs.contracts.row.Row as row

-- states by name
abbrev pub States : Type 0
States = Map name_cmp State

-- each under its own name, and no two with one wire key or one stack key
pub record AreStates (m : States) : Type 0 where
  pub filed : (n : StateName) (s : State) → maps.get m n ≡ Some s → s.name ≡ n
  pub one_wire : (n o : StateName) (s t : State) → maps.get m n ≡ Some s → maps.get m o ≡ Some t → s.wire ≡ t.wire → n ≡ o
  pub one_stack : (n o : StateName) (s t : State) → maps.get m n ≡ Some s → maps.get m o ≡ Some t → s.stack ≡ t.stack → n ≡ o

-- the one state with the wire key
abbrev pub by_wire : States → Key → Option State
by_wire m k = find (λ s. is_key s.wire k) (maps.values m)

-- the one state with the stack key
abbrev pub by_stack : States → Key → Option State
by_stack m k = find (λ s. is_key s.stack k) (maps.values m)

-- the state of a packet: on the way in by the wire key, on the way out by the stack key (pf.c)
abbrev pub found : States → Key → Dir → Option State
found m k Inbound = by_wire m k
found m k Outbound = by_stack m k

-- a key is in use: the wire key as a wire key, or the stack key as a stack key
abbrev pub key_in_use : States → Key → Key → Bool
key_in_use m wire stack = is_some (by_wire m wire) || is_some (by_stack m stack)

-- how many states the rule has
abbrev pub count_of_rule : States → ℕ → ℕ
count_of_rule m rule = count_by (λ s. option_map_or (λ r. r == rule) s.rule false) (maps.values m)

-- ---- the table keeps with each state its timeout, in seconds

-- what contracts see of the table
pub record Table : Type 0 where
  pub limit : ℕ
  pub rows : Map name_cmp Row

-- as a pair of a number and a map
abbrev pub coded_table : Coded Table
coded_table = code_by (ℕ × Map name_cmp Row) (coded× coded_ℕ (maps.code coded_state_name row.the_row.coded)) (λ t. (t.limit, t.rows))
    (λ p. record { limit = p.0; rows = p.1 }) (λ _. refl)

-- its states
abbrev pub states_of : Table → States
states_of t = map_values (λ r. r.state) t.rows

-- a table: at most `limit` states, each under its own name, and no two with one wire key or one stack key
pub record IsTable (t : Table) : Type 0 where
  pub few : maps.len t.rows ≤ t.limit
  pub states : AreStates (states_of t)

-- when a row expires where timeouts are scaled for this number of states (pf.conf(5))
abbrev pub row_expiry : Adaptive → ℕ → Row → ℕ
row_expiry a states r = expiry r.state (scaled r.timeout a states)

-- by expiry, then by name
abbrev pub row_before : Adaptive → ℕ → Row → Row → Bool
row_before a states r q =
    nat_lt (row_expiry a states r) (row_expiry a states q)
    || ((row_expiry a states r == row_expiry a states q) && is_lt (name_cmp r.state.name q.state.name))

-- the row that expires first
abbrev pub first_expiring : Adaptive → ℕ → Table → Option Row
first_expiring a states t = slice_get (in_order (row_before a states) (maps.values t.rows)) 0

-- the row of the first name above this one
abbrev pub row_after : Table → StateName → Option Row
row_after t name = find (λ r. is_lt (name_cmp name r.state.name)) (maps.values t.rows)

-- the state of the first name above this one
abbrev pub state_after : States → StateName → Option State
state_after m name = find (λ s. is_lt (name_cmp name s.name)) (maps.values m)

-- why a state may not be put, if there is a reason: the first one
abbrev pub put_fault : Table → State → Option PutFault
put_fault t s =
    if nat_le t.limit (maps.len t.rows) then Some Full else
    if is_some (maps.get (states_of t) s.name) then Some NameInUse else
    if is_some (by_wire (states_of t) s.wire) then Some WireInUse else
    if is_some (by_stack (states_of t) s.stack) then Some StackInUse else None

-- their numbers
abbrev pub put_fault_number : PutFault → ℕ
put_fault_number Full = 1
put_fault_number NameInUse = 2
put_fault_number WireInUse = 3
put_fault_number StackInUse = 4

-- the fault in words (this project's profile)
abbrev pub put_fault_text : PutFault → List ℕ
put_fault_text Full = codes "the table is full"
put_fault_text NameInUse = codes "the name is in use"
put_fault_text WireInUse = codes "the wire key is in use"
put_fault_text StackInUse = codes "the stack key is in use"

-- ---- edits: each names one place, that of a name

-- the row of a state with this timeout, if there is a state
abbrev pub row_with : Option State → ℕ → Option Row
row_with state timeout = option_map (λ s. record { state = s; timeout = timeout }) state

-- a row whose state was moved so, with another timeout
abbrev pub row_moved : Motion → ℕ → Row → Row
row_moved to timeout r = record { state = with_motion to r.state; timeout = timeout }

-- the table with the row of the name moved so, if there is one
abbrev pub with_moved : Table → StateName → Motion → ℕ → Table
with_moved t name to timeout = record { limit = t.limit; rows = set_at t.rows name (option_map (row_moved to timeout) (maps.get t.rows name)) }

-- the table with this under the name
abbrev pub with_row : Table → StateName → Option Row → Table
with_row t name at = record { limit = t.limit; rows = set_at t.rows name at }

-- the edit of setting this under the name
abbrev pub edit_of : Table → StateName → Option Row → TableEdit
edit_of t name at = record { name = name; before = maps.get t.rows name; after = at }

-- the edit's new value is in its place
abbrev pub Finds : TableEdit → Table → Type 0
Finds e t = maps.get t.rows e.name ≡ e.after

-- its former value is
abbrev pub FindsFormer : TableEdit → Table → Type 0
FindsFormer e t = maps.get t.rows e.name ≡ e.before

-- the former value in its place
abbrev pub put_back : TableEdit → Table → Table
put_back e t = with_row t e.name e.before

-- the new value in its place
abbrev pub redone : TableEdit → Table → Table
redone e t = with_row t e.name e.after

-- the edits lead from one table to another and back
abbrev pub TableLeadsBack : List TableEdit → Table → Table → Type 0
TableLeadsBack = LeadsBack Finds IsTable put_back
