-- What stands under a name among the states of a node, with its timeout.
use Rattle.std.specs.Prelude.{◌≡◌, ◌≤◌, ◌<◌, ℕ, Bool, true, false, ◌||◌, nat_le, is_some, if◌then◌else◌, Option, Some, None, IfSome, refl}
use Rattle.std.specs.Option.{option_map}
use Rattle.std.proofs.Common.{◌∙◌, ap, sym, subst, arith, inl, inr}
use Rattle.pfl_base.specs.declared.state_name.StateName.{StateName}
use Rattle.pfl_base.proofs.ForCallers.{names_total, names_exact}
use Rattle.pfl_edits.specs.Maps as maps
use Rattle.pfl_edits.specs.Maps.{set_at}
use Rattle.pfl_edits.proofs.ForCallers.{get-set_at_cases}
use Rattle.pfl_rules.specs.Rules.{Rules}
use Rattle.pfl_track.specs.declared.motion.Motion.{Motion}
use Rattle.pfl_track.specs.declared.state.State.{State}
use Rattle.pfl_track.specs.Motions.{with_motion}
use Rattle.pfl_table.specs.declared.row.Row.{Row}
use Rattle.pfl_table.specs.Tables.{Table, States, IsTable, AreStates, states_of, row_with, row_moved, with_row, with_moved, put_fault, key_in_use}
use Rattle.pfl_table.proofs.ForCallers.{get-states_of, states_of-with_row, len-states_of}
use Rattle.pfl_table.specs.declared.fault.PutFault.TheVariants.{Full, NameInUse, WireInUse, StackInUse}
use Rattle.std.proofs.lemmas.Bool.Decides.{nat_tests}
use Rattle.pfl_language.specs.declared.limits.Limits.{Limits}
use Rattle.pfl_desk.specs.Edits.{moved_at}
use Rattle.pfl_desk.specs.inner.Kept.{IsTimely, MayAdd, timeout_by}
use Rattle.pfl_desk.specs.Nodes.{Node, AreParts}

-- a state with its timeout
abbrev pub row_by : Rules → Option State → Option Row
row_by rules at = option_map (λ s. record { state = s; timeout = timeout_by rules s }) at

abbrev timed : State → ℕ → Row
timed s k = record { state = s; timeout = k }

-- with the timeout that follows from the rules, it is that row
pub row-by : (rules : Rules) (at : Option State) (seconds : ℕ) → IfSome at (λ s. seconds ≡ timeout_by rules s) → row_with at seconds ≡ row_by rules at
row-by rules None seconds is = refl
row-by rules (Some s) seconds is = ap (λ (k : ℕ). Some (timed s k)) is

state_of_row : (rules : Rules) (at : Option State) → option_map (λ (r : Row). r.state) (row_by rules at) ≡ at
state_of_row rules None = refl
state_of_row rules (Some s) = refl

-- the states of the table with the row
pub states-with : (t : Table) (rules : Rules) (name : StateName) (at : Option State) (row : Option Row) → row ≡ row_by rules at
    → states_of (with_row t name row) ≡ set_at (states_of t) name at
states-with t rules name at row is =
    states_of-with_row t name row ∙ ap (set_at (states_of t) name) (ap (option_map (λ (r : Row). r.state)) is ∙ state_of_row rules at)

-- the table with the row is a table
pub set-table : (n : Node) (t : Table) (name : StateName) (at : Option State) (row : Option Row) → n.states ≡ states_of t
    → t.limit ≡ n.limits.states → row ≡ row_by n.rules at
    → AreParts (record n { states = set_at n.states name at }) → IsTable (with_row t name row)
set-table n t name at row states room is whole =
    let now : states_of (with_row t name row) ≡ set_at n.states name at = states-with t n.rules name at row is ∙ ap (λ m. set_at m name at) (sym states) in
    record {
      few =
          let few : maps.len (set_at n.states name at) ≤ n.limits.states = whole.few in
          subst (λ (k : ℕ). k ≤ t.limit) (ap maps.len (sym now) ∙ len-states_of (with_row t name row))
          (subst (λ (k : ℕ). maps.len (set_at n.states name at) ≤ k) (sym room) few);
      states = subst AreStates (sym now) whole.states;
    }

timely_row : (rules : Rules) (at : Option State) (row : Row) → row_by rules at ≡ Some row → row.timeout ≡ timeout_by rules row.state
timely_row rules None row is = cc
timely_row rules (Some s) row is =
    let same : record { state = s; timeout = timeout_by rules s } ≡ row = cc in
    subst (λ (r : Row). r.timeout ≡ timeout_by rules r.state) same refl

-- each row of it has its timeout
pub set-timely : (limits : Limits) (rules : Rules) (t : Table) (name : StateName) (at : Option State) (row : Option Row)
    → IsTimely limits rules t → row ≡ row_by rules at
    → IsTimely limits rules (with_row t name row)
set-timely limits rules t name at row timely is = record {
  room = timely.room;
  timeouts = λ q r there. elim (get-set_at_cases names_total names_exact t.rows name row q r there) [
    | inl here ↦ timely_row rules at r (sym is ∙ here.1)
    | inr other ↦ timely.timeouts q r other.1
  ];
}

-- the states of a table that was written
pub written-states : (t u : Table) (name : StateName) (at : Option State) (seconds : ℕ) → u ≡ with_row t name (row_with at seconds)
    → states_of u ≡ set_at (states_of t) name at
written-states t u name None seconds is = ap states_of is ∙ states_of-with_row t name None
written-states t u name (Some s) seconds is = ap states_of is ∙ states_of-with_row t name (Some (timed s seconds))

-- where it is written with the timeout that follows from the rules, each row of it has its timeout
pub written-timely : (limits : Limits) (rules : Rules) (t u : Table) (name : StateName) (at : Option State) (seconds : ℕ) → IsTimely limits rules t
    → IfSome at (λ s. seconds ≡ timeout_by rules s) → u ≡ with_row t name (row_with at seconds) → IsTimely limits rules u
written-timely limits rules t u name at seconds timely by is =
    subst (λ (v : Table). IsTimely limits rules v) (sym is) (set-timely limits rules t name at (row_with at seconds) timely (row-by rules at seconds by))

-- a row is moved where its state is
moved_row : (to : Motion) (seconds : ℕ) (at : Option Row)
    → option_map (λ (r : Row). r.state) (option_map (row_moved to seconds) at) ≡ option_map (with_motion to) (option_map (λ (r : Row). r.state) at)
moved_row to seconds None = refl
moved_row to seconds (Some r) = refl

-- the states of a table of which one was moved
pub moved-states : (t u : Table) (name : StateName) (to : Motion) (seconds : ℕ) → u ≡ with_moved t name to seconds
    → states_of u ≡ moved_at (states_of t) name to
moved-states t u name to seconds is =
    ap states_of is ∙ (states_of-with_row t name (option_map (row_moved to seconds) (maps.get t.rows name))
    ∙ ap (set_at (states_of t) name) (moved_row to seconds (maps.get t.rows name) ∙ ap (option_map (with_motion to)) (sym (get-states_of t name))))

-- where it is moved with the timeout that follows from the rules, each row of it has its timeout
pub moved-timely : (limits : Limits) (rules : Rules) (t u : Table) (name : StateName) (r : Row) (to : Motion) (seconds : ℕ) → IsTimely limits rules t
    → Some r ≡ maps.get t.rows name → seconds ≡ timeout_by rules (record r.state { class = to.class }) → u ≡ with_moved t name to seconds
    → IsTimely limits rules u
moved-timely limits rules t u name r to seconds timely at by is =
    subst (λ (v : Table). IsTimely limits rules v) (sym is)
    (set-timely limits rules t name (Some (with_motion to r.state)) (option_map (row_moved to seconds) (maps.get t.rows name)) timely
    (ap (option_map (row_moved to seconds)) (sym at) ∙ ap (λ (k : ℕ). Some (timed (with_motion to r.state) k)) by))

-- nothing keeps a state from being added that may be
pub addable : (n : Node) (t : Table) (s : State) → n.states ≡ states_of t → t.limit ≡ n.limits.states → MayAdd n s → put_fault t s ≡ None
addable n t s states room may =
    let few : maps.len t.rows < t.limit = let roomy = may.room in omega (arith, sym (len-states_of t), ap maps.len states, room) in
    let fresh : is_some (maps.get (states_of t) s.name) ≡ false = ap is_some (ap (λ (m : States). maps.get m s.name) (sym states) ∙ may.fresh) in
    let unused : key_in_use (states_of t) s.wire s.stack ≡ false = ap (λ (m : States). key_in_use m s.wire s.stack) (sym states) ∙ may.unused in
    let keys = neither _ _ unused in
    by _ _ _ _ (below _ _ few) fresh keys.0 keys.1
  where
    below : (k limit : ℕ) → k < limit → nat_le limit k ≡ false
    below k limit h = grind (arith, nat_tests)

    neither : (a b : Bool) → (a || b) ≡ false → (a ≡ false) × (b ≡ false)
    neither true b e = absurd (cc)
    neither false b e = (refl, e)

    by : (a b c d : Bool) → a ≡ false → b ≡ false → c ≡ false → d ≡ false
        → (if a then Some Full else if b then Some NameInUse else if c then Some WireInUse else if d then Some StackInUse else None) ≡ None
    by true b c d e f g h = absurd (cc)
    by false true c d e f g h = absurd (cc)
    by false false true d e f g h = absurd (cc)
    by false false false true e f g h = absurd (cc)
    by false false false false e f g h = refl

-- two nodes that are one, with states that are one
pub whole-with : (n m : Node) (s u : States) → n ≡ m → s ≡ u → record n { states = s } ≡ record m { states = u }
whole-with n m s u e f = ap (λ (k : Node). record k { states = s }) e ∙ ap (λ (v : States). record m { states = v }) f
