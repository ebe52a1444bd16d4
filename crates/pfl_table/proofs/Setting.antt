-- What setting what stands under a name keeps of a table.
use Rattle.std.specs.Prelude.{◌≡◌, ◌≤◌, ◌+◌, ◌-◌, ℕ, Bool, true, false, ◌||◌, nat_le, [], ◌∷◌, Option, Some, None, IfSome, is_some, if◌then◌else◌, refl}
use Rattle.std.specs.Option.{option_map}
use Rattle.std.proofs.Common.{cond, ◌∙◌, ap, sym, subst, arith}
use Rattle.std.proofs.lemmas.Bool.Decides.{nat_tests}
use Rattle.pfl_base.specs.declared.state_name.StateName.{StateName}
use Rattle.pfl_base.proofs.ForCallers.{names_total, names_exact}
use Rattle.pfl_edits.specs.Maps as maps
use Rattle.pfl_edits.proofs.ForCallers.{len-insert, len-remove, get-set_at_same, set_at-same}
use Rattle.pfl_track.specs.declared.state.State.{State}
use Rattle.pfl_table.specs.declared.edit.TableEdit.{TableEdit}
use Rattle.pfl_table.specs.declared.row.Row.{Row}
use Rattle.pfl_table.specs.Tables.{Table, IsTable, AreStates, states_of, by_wire, by_stack, put_fault, row_with, with_row, edit_of, TableLeadsBack}
use Rattle.pfl_table.proofs.Tables.{edit_of-leads_back, get-states_of, states_of-with_row}
use Rattle.pfl_table.proofs.Apart.{OwnsKeys-unused, OwnsKeys-known, AreStates-with, AreStates-without}

-- nothing keeps the state from being put
pub record MayPut (t : Table) (s : State) : Type 0 where
  pub room : nat_le t.limit (maps.len t.rows) ≡ false
  pub name : is_some (maps.get (states_of t) s.name) ≡ false
  pub wire : is_some (by_wire (states_of t) s.wire) ≡ false
  pub stack : is_some (by_stack (states_of t) s.stack) ≡ false

neither : {X : Type 0} (b : Bool) (x : X) (rest : Option X) → (if b then Some x else rest) ≡ None → (b ≡ false) × (rest ≡ None)
neither true x rest e = absurd (cc)
neither false x rest e = (refl, e)

pub may_put : (t : Table) (s : State) → put_fault t s ≡ None → MayPut t s
may_put t s none =
    let full = neither _ _ _ none in
    let name = neither _ _ _ full.1 in
    let wire = neither _ _ _ name.1 in
    let stack = neither _ _ _ wire.1 in
    record { room = full.0; name = name.0; wire = wire.0; stack = stack.0 }

is_some-map : {X Y : Type 0} (f : X → Y) (o : Option X) → is_some (option_map f o) ≡ is_some o
is_some-map f None = refl
is_some-map f (Some x) = refl

pub is_none : {X : Type 0} (o : Option X) → is_some o ≡ false → o ≡ None
is_none None e = refl
is_none (Some x) e = absurd (cc)

-- a row stands under a name where its state does
pub known_row : (t : Table) (name : StateName) → is_some (maps.get t.rows name) ≡ is_some (maps.get (states_of t) name)
known_row t name = sym (ap is_some (get-states_of t name) ∙ is_some-map (λ (r : Row). r.state) (maps.get t.rows name))

-- a state more
pub table_put : (t : Table) (name : StateName) (row : Row) → name ≡ row.state.name → IsTable t → put_fault t row.state ≡ None
    → IsTable (with_row t name (Some row))
table_put t name row named is none =
    let may = may_put t row.state none in
    subst (λ (n : StateName). IsTable (with_row t n (Some row))) (sym named) (record {
      few = rw (len-insert names_total t.rows row.state.name row, known_row t row.state.name, may.name) (more (maps.len t.rows) t.limit may.room);
      states = subst AreStates (sym (states_of-with_row t row.state.name (Some row)))
          (AreStates-with (states_of t) row.state is.states (OwnsKeys-unused (states_of t) row.state (unused _ _ may.wire may.stack)));
    })
  where
    more : (n limit : ℕ) → nat_le limit n ≡ false → n + 1 ≤ limit
    more n limit e = grind (arith, nat_tests)

    unused : (a b : Bool) → a ≡ false → b ≡ false → (a || b) ≡ false
    unused true b p q = p
    unused false b p q = q

-- another row in place of one of the same keys
pub table_changed : (t : Table) (name : StateName) (row : Row) (held : State) → name ≡ row.state.name → IsTable t → Some held ≡ maps.get (states_of t) name
    → IfSome (maps.get (states_of t) row.state.name) (λ s. s.wire ≡ row.state.wire)
    → IfSome (maps.get (states_of t) row.state.name) (λ s. s.stack ≡ row.state.stack)
    → IsTable (with_row t name (Some row))
table_changed t name row held named is at wire stack =
    let there : maps.get (states_of t) row.state.name ≡ Some held = sym (at ∙ ap (maps.get (states_of t)) named) in
    let same : held.name ≡ row.state.name = is.states.filed row.state.name held there in
    subst (λ (n : StateName). IsTable (with_row t n (Some row))) (sym named) (record {
      few = rw (len-insert names_total t.rows row.state.name row, known_row t row.state.name, there) is.few;
      states = subst AreStates (sym (states_of-with_row t row.state.name (Some row)))
          (AreStates-with (states_of t) row.state is.states
          (OwnsKeys-known (states_of t) held row.state is.states (ap (maps.get (states_of t)) same ∙ there) (record {
            name = sym same;
            wire = sym (subst (λ (o : Option State). IfSome o (λ s. s.wire ≡ row.state.wire)) there wire);
            stack = sym (subst (λ (o : Option State). IfSome o (λ s. s.stack ≡ row.state.stack)) there stack);
          })));
    })

-- a row less
pub table_without : (t : Table) (name : StateName) → IsTable t → IsTable (with_row t name None)
table_without t name is = record {
  few = rw (len-remove names_total t.rows name) (less (is_some (maps.get t.rows name)) (maps.len t.rows) t.limit is.few);
  states = subst AreStates (sym (states_of-with_row t name None)) (AreStates-without (states_of t) name is.states);
}
  where
    less : (b : Bool) (n limit : ℕ) → n ≤ limit → cond b (n - 1) n ≤ limit
    less true n limit h = omega arith
    less false n limit h = h

-- the state of a row that was made of it
pub state_of_row_with : (state : Option State) (timeout : ℕ) → option_map (λ (r : Row). r.state) (row_with state timeout) ≡ state
state_of_row_with None timeout = refl
state_of_row_with (Some s) timeout = refl

-- what stood under the name of an edit
pub state_before : (t : Table) (name : StateName) (at : Option Row) (e : TableEdit) → e ≡ edit_of t name at
    → maps.get (states_of t) name ≡ option_map (λ (r : Row). r.state) e.before
state_before t name at e is = get-states_of t name ∙ ap (λ (f : TableEdit). option_map (λ (r : Row). r.state) f.before) (sym is)

-- to take out what does not stand there changes nothing
pub without_none : (t : Table) (name : StateName) → maps.get t.rows name ≡ None → with_row t name None ≡ t
without_none t name none = ap (λ m. record { limit = t.limit; rows = m }) (set_at-same names_total names_exact t.rows name None none)

-- what a table has under a name is a row of that name
pub own_name : (t : Table) (name : StateName) (at : Option Row) → IsTable (with_row t name at) → IfSome at (λ r. r.state.name ≡ name)
own_name t name None is = tt
own_name t name (Some row) is =
    is.states.filed name row.state (get-states_of (with_row t name (Some row)) name
    ∙ ap (option_map (λ (r : Row). r.state)) (get-set_at_same names_total names_exact t.rows name (Some row)))

-- what was set leads back
pub set_leads_back : (old new : Table) (e : TableEdit) (name : StateName) (at : Option Row) → IsTable old → e ≡ edit_of old name at → new ≡ with_row old name at
    → TableLeadsBack (e ∷ []) old new
set_leads_back old new e name at is edit set =
    subst (λ (t : Table). TableLeadsBack (e ∷ []) old t) (sym set)
    (subst (λ (f : TableEdit). TableLeadsBack (f ∷ []) old (with_row old name at)) (sym edit) (edit_of-leads_back old name at is))
