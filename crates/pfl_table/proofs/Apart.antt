-- What keeps one state for each key: taking a state out, and putting one whose keys are its own.
use Rattle.std.specs.Prelude.{◌≡◌, ◌≢◌, ℕ, Bool, true, false, ◌&&◌, ◌||◌, ◌==◌, ◌⊎◌, Option, Some, None, is_some, refl}
use Rattle.std.proofs.Common.{T, ◌∙◌, ap, sym, subst, inl, inr, arith}
use Rattle.std.proofs.lemmas.Bool.Decides.{nat_tests}
use Rattle.pfl_base.specs.declared.addr.Addr.{Addr}
use Rattle.pfl_base.specs.declared.addr.Addr.TheVariants.{V4, V6}
use Rattle.pfl_base.specs.declared.addr.End.{End}
use Rattle.pfl_base.specs.declared.direction.Dir.{Dir}
use Rattle.pfl_base.specs.declared.direction.Dir.TheVariants.{Inbound, Outbound}
use Rattle.pfl_base.specs.declared.flow.Key.{Key}
use Rattle.pfl_base.specs.declared.state_name.StateName.{StateName}
use Rattle.pfl_base.specs.Ends.{is_addr, is_end}
use Rattle.pfl_base.specs.Keys.{is_key}
use Rattle.pfl_base.proofs.ForCallers.{names_total, names_exact}
use Rattle.pfl_edits.specs.Maps as maps
use Rattle.pfl_edits.proofs.ForCallers.{get-set_at_cases, some_is_none, first_value-stands, no_value_passes}
use Rattle.pfl_track.specs.declared.state.State.{State}
use Rattle.pfl_table.specs.Tables.{States, AreStates, by_wire, by_stack, found, key_in_use}

-- ---- a key is itself

number_itself : (n : ℕ) → (n == n) ≡ true
number_itself n = grind (arith, nat_tests)

both : (a b : Bool) → a ≡ true → b ≡ true → (a && b) ≡ true
both true b p q = q
both false b p q = p

is_addr-itself : (a : Addr) → is_addr a a ≡ true
is_addr-itself (V4 n) = number_itself n
is_addr-itself (V6 n) = number_itself n

is_end-itself : (e : End) → is_end e e ≡ true
is_end-itself e = both _ _ (is_addr-itself e.addr) (number_itself e.port)

is_key-itself : (k : Key) → is_key k k ≡ true
is_key-itself k = both _ _ (both _ _ (number_itself _) (is_end-itself k.far)) (is_end-itself k.near)

true_is_false : {A : Type 0} → true ≡ false → A
true_is_false e = absurd (subst T e tt)

-- ---- keys of a state's own

-- no other state of the table has a key of this one
pub record OwnsKeys (m : States) (s : State) : Type 0 where
  pub wire : (o : StateName) (u : State) → maps.get m o ≡ Some u → s.wire ≡ u.wire → s.name ≡ o
  pub stack : (o : StateName) (u : State) → maps.get m o ≡ Some u → s.stack ≡ u.stack → s.name ≡ o

-- the two have the same name and keys
pub record SameKeys (s t : State) : Type 0 where
  pub name : t.name ≡ s.name
  pub wire : t.wire ≡ s.wire
  pub stack : t.stack ≡ s.stack

pub SameKeys-itself : (s : State) → SameKeys s s
SameKeys-itself s = record { name = refl; wire = refl; stack = refl }

either_false : (a b : Bool) → (a || b) ≡ false → (a ≡ false) × (b ≡ false)
either_false true b e = true_is_false e
either_false false b e = (refl, e)

is_none : {X : Type 0} (o : Option X) → is_some o ≡ false → o ≡ None
is_none None e = refl
is_none (Some x) e = true_is_false e

-- keys that are not in use are a state's own
pub OwnsKeys-unused : (m : States) (s : State) → key_in_use m s.wire s.stack ≡ false → OwnsKeys m s
OwnsKeys-unused m s free =
    let parts = either_false (is_some (by_wire m s.wire)) (is_some (by_stack m s.stack)) free in
    record {
      wire = λ o u at same. true_is_false (sym (ap (λ k. is_key k s.wire) (sym same) ∙ is_key-itself s.wire)
          ∙ no_value_passes names_total names_exact (λ t. is_key t.wire s.wire) m (is_none _ parts.0) o u at);
      stack = λ o u at same. true_is_false (sym (ap (λ k. is_key k s.stack) (sym same) ∙ is_key-itself s.stack)
          ∙ no_value_passes names_total names_exact (λ t. is_key t.stack s.stack) m (is_none _ parts.1) o u at);
    }

-- the keys of a state of the table are its own
pub OwnsKeys-known : (m : States) (s t : State) → AreStates m → maps.get m s.name ≡ Some s → SameKeys s t → OwnsKeys m t
OwnsKeys-known m s t are at same = record {
  wire = λ o u there e. same.name ∙ are.one_wire s.name o s u at there (sym same.wire ∙ e);
  stack = λ o u there e. same.name ∙ are.one_stack s.name o s u at there (sym same.stack ∙ e);
}

-- ---- what is kept

inner : {X : Type 0} (x y : X) → Some x ≡ Some y → x ≡ y
inner x y e = cc

-- a state less
pub AreStates-without : (m : States) (name : StateName) → AreStates m → AreStates (maps.remove m name)
AreStates-without m name are = record {
  filed = λ n s is. are.filed n s (before n s is);
  one_wire = λ n o s t is there. are.one_wire n o s t (before n s is) (before o t there);
  one_stack = λ n o s t is there. are.one_stack n o s t (before n s is) (before o t there);
}
  where
    before : (n : StateName) (s : State) → maps.get (maps.remove m name) n ≡ Some s → maps.get m n ≡ Some s
    before n s is = elim (get-set_at_cases names_total names_exact m name None n s is) [ inl at ↦ absurd (some_is_none s (sym at.1)) | inr at ↦ at.1 ]

-- a state more, or in place of the one of its name, with keys of its own
pub AreStates-with : (m : States) (s : State) → AreStates m → OwnsKeys m s → AreStates (maps.insert m s.name s)
AreStates-with m s are owns = record {
  filed = λ n t is. elim (cases n t is) [ inl at ↦ ap (λ (u : State). u.name) (sym (inner s t at.1)) ∙ sym at.0 | inr at ↦ are.filed n t at.1 ];
  one_wire = λ n o t u is there e. elim (cases n t is) [
    | inl at ↦ elim (cases o u there) [
      | inl too ↦ at.0 ∙ sym too.0
      | inr far ↦ at.0 ∙ owns.wire o u far.1 (ap (λ (v : State). v.wire) (inner s t at.1) ∙ e)
    ]
    | inr near ↦ elim (cases o u there) [
      | inl at ↦ sym (at.0 ∙ owns.wire n t near.1 (ap (λ (v : State). v.wire) (inner s u at.1) ∙ sym e))
      | inr far ↦ are.one_wire n o t u near.1 far.1 e
    ]
  ];
  one_stack = λ n o t u is there e. elim (cases n t is) [
    | inl at ↦ elim (cases o u there) [
      | inl too ↦ at.0 ∙ sym too.0
      | inr far ↦ at.0 ∙ owns.stack o u far.1 (ap (λ (v : State). v.stack) (inner s t at.1) ∙ e)
    ]
    | inr near ↦ elim (cases o u there) [
      | inl at ↦ sym (at.0 ∙ owns.stack n t near.1 (ap (λ (v : State). v.stack) (inner s u at.1) ∙ sym e))
      | inr far ↦ are.one_stack n o t u near.1 far.1 e
    ]
  ];
}
  where
    cases : (n : StateName) (t : State) → maps.get (maps.insert m s.name s) n ≡ Some t → ((n ≡ s.name) × (Some s ≡ Some t))
        ⊎ ((n ≢ s.name) × (maps.get m n ≡ Some t))
    cases n t is = get-set_at_cases names_total names_exact m s.name (Some s) n t is

-- ---- what is found

-- a state that is found stands under its name
pub found-stands : (m : States) (k : Key) (dir : Dir) (s : State) → AreStates m → found m k dir ≡ Some s → maps.get m s.name ≡ Some s
found-stands m k Inbound s are is = filed_at m s are (first_value-stands names_total names_exact (λ t. is_key t.wire k) m s is)
  where
    filed_at : (m : States) (s : State) → AreStates m → ((n : StateName) × (maps.get m n ≡ Some s)) → maps.get m s.name ≡ Some s
    filed_at m s are at = subst (λ n. maps.get m n ≡ Some s) (sym (are.filed at.0 s at.1)) at.1
found-stands m k Outbound s are is = filed_at m s are (first_value-stands names_total names_exact (λ t. is_key t.stack k) m s is)
  where
    filed_at : (m : States) (s : State) → AreStates m → ((n : StateName) × (maps.get m n ≡ Some s)) → maps.get m s.name ≡ Some s
    filed_at m s are at = subst (λ n. maps.get m n ≡ Some s) (sym (are.filed at.0 s at.1)) at.1
