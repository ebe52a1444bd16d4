-- A name as a key of indexes, and the first value of a map that passes a test.
use Rattle.std.specs.Prelude.{◌≡◌, Bool, true, false, List, [], ◌∷◌, find, Some, None, refl}
use Rattle.std.specs.Cmp.{IsTotalOrder}
use Rattle.std.specs.FinMap.{IsAntisymmetric}
use Rattle.std.specs.declared.cmp.Ordering.{Ordering}
use Rattle.std.proofs.Common.{cond, T, ◌∙◌, ap, sym, subst}
use Rattle.pfl_base.specs.declared.state_name.StateName.{StateName}
use Rattle.pfl_edits.specs.Maps as maps
use Rattle.pfl_edits.specs.Maps.{Map}
use Rattle.pfl_edits.proofs.ForCallers.{some_is_none, first_value, first_value-stands, no_value_passes}
use Rattle.pfl_containers.specs.declared.by_name.ByName.{ByName}
use Rattle.pfl_table.specs.declared.row.Row.{Row}
use Rattle.pfl_table.specs.inner.Ordering.{by_name}

pub true_is_false : {A : Type 0} → true ≡ false → A
true_is_false e = absurd (subst T e tt)

-- a name as a key of indexes
pub named : (name : StateName) (r : Row) → name ≡ r.state.name → ◌≡◌ {A = ByName} (record { 0 = name }) (by_name r)
named name r same = ap (λ (n : StateName). record { 0 = n }) same

module _ {K X : Type 0} {R : K → K → Ordering} (o : IsTotalOrder R) (exact : IsAntisymmetric R) (p : X → Bool) where
  passes : (v : X) (xs : List X) → find p xs ≡ Some v → p v ≡ true
  passes v [] is = absurd (some_is_none v (sym is))
  passes v (x ∷ xs) is =
      elim (p x) as (λ b. p x ≡ b → cond b (Some x) (find p xs) ≡ Some v → p v ≡ true) [
        | true ↦ λ px s. let same : x ≡ v = cc in ap p (sym same) ∙ px
        | false ↦ λ px s. passes v xs s
      ] refl is

  -- none is found where none passes
  pub first_value-none : (m : Map R X) → ((q : K) (v : X) → maps.get m q ≡ Some v → p v ≡ false) → first_value p m ≡ None
  first_value-none m h =
      elim (first_value p m) as (λ found. first_value p m ≡ found → found ≡ None) [
        | None ↦ λ is. refl
        | Some v ↦ λ is. let at = first_value-stands o exact p m v is in true_is_false (sym (passes v (maps.values m) is) ∙ h at.0 v at.1)
      ] refl

  -- the one that passes is found
  pub first_value-some : (m : Map R X) (k : K) (v : X) → maps.get m k ≡ Some v → p v ≡ true
      → ((q : K) (u : X) → maps.get m q ≡ Some u → p u ≡ true → q ≡ k) → first_value p m ≡ Some v
  first_value-some m k v is pv one =
      elim (first_value p m) as (λ found. first_value p m ≡ found → found ≡ Some v) [
        | None ↦ λ none. true_is_false (sym pv ∙ no_value_passes o exact p m none k v is)
        | Some u ↦ λ some.
            let at = first_value-stands o exact p m u some in
            sym at.1 ∙ (ap (maps.get m) (one at.0 u at.1 (passes u (maps.values m) some)) ∙ is)
      ] refl
