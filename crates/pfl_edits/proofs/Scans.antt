-- The first value of a map that passes a test.
use Rattle.std.specs.Prelude.{Bool, map, find, Option, ◌≡◌, refl, true, false, ◌&&◌, List, [], ◌∷◌, Some, None}
use Rattle.std.specs.Cmp.{IsTotalOrder}
use Rattle.std.specs.FinMap.{IsAntisymmetric}
use Rattle.std.specs.FinMap.Entries.{below_all, is_sorted}
use Rattle.std.specs.FinMap.Entries as ordered
use Rattle.std.specs.Ordering.{is_lt, is_eq, eq_by_cmp}
use Rattle.std.specs.declared.cmp.Ordering.{Ordering}
use Rattle.std.specs.declared.cmp.Ordering.TheVariants.{Less, Equal, Greater}
use Rattle.std.proofs.Common.{T, cond, ◌∙◌, ap, sym}
use Rattle.pfl_edits.specs.Maps.{Map, entries, entries_sorted}
use Rattle.pfl_edits.specs.Maps as maps
use Rattle.pfl_edits.proofs.RowMaps.{same_key, some_is_none, own_key}
use Rattle.pfl_edits.proofs.Maps.{get-entries}

-- the first value that passes the test, in the order of the keys
abbrev pub first_value : {K X : Type 0} {R : K → K → Ordering} → (X → Bool) → Map R X → Option X
first_value p m = find p (map (λ e. e.1) (entries m))

less_is : (r : Ordering) → T (is_lt r) → r ≡ Less
less_is Less t = refl
less_is Equal t = absurd t
less_is Greater t = absurd t

left : (a b : Bool) → T (a && b) → T a
left true b t = tt
left false b t = t

right : (a b : Bool) → T (a && b) → T b
right true b t = t
right false b t = absurd t

module _ {K X : Type 0} {R : K → K → Ordering} (o : IsTotalOrder R) (exact : IsAntisymmetric R) where
  -- a key below all of a list is not found there
  absent_below : (q : K) (es : List (K × X)) → T (below_all R q es) → ordered.find R q es ≡ None
  absent_below q [] t = refl
  absent_below q (e ∷ es) t =
      ap (λ r. cond (is_eq r) (Some e.1) (ordered.find R q es)) (less_is (R q e.0) (left _ _ t)) ∙ absent_below q es (right _ _ t)

  module _ (p : X → Bool) where
    lifted : (e : K × X) (es : List (K × X)) → T (is_sorted R (e ∷ es)) → (q : K) (v : X) → ordered.find R q es ≡ Some v → ordered.find R q (e ∷ es) ≡ Some v
    lifted e es s q v is =
        elim (eq_by_cmp R q e.0) as (λ b. eq_by_cmp R q e.0 ≡ b → cond b (Some e.1) (ordered.find R q es) ≡ Some v) [
          | true ↦ λ t. absurd (some_is_none v
              (sym is ∙ (ap (λ k. ordered.find R k es) (same_key o exact (λ k. k) q e.0 t) ∙ absent_below e.0 es (left _ _ s))))
          | false ↦ λ t. is
        ] refl

    head : (e : K × X) (es : List (K × X)) → ordered.find R e.0 (e ∷ es) ≡ Some e.1
    head e es = ap (λ b. cond b (Some e.1) (ordered.find R e.0 es)) (own_key o exact (λ k. k) e.0)

    failing_entries : (es : List (K × X)) → find p (map (λ e. e.1) es) ≡ None → (q : K) (v : X) → ordered.find R q es ≡ Some v → p v ≡ false
    failing_entries [] n q v is = absurd (some_is_none v (sym is))
    failing_entries (e ∷ es) n q v is =
        elim (p e.1) as (λ b. p e.1 ≡ b → cond b (Some e.1) (find p (map (λ e. e.1) es)) ≡ None → p v ≡ false) [
          | true ↦ λ pe n. absurd (some_is_none e.1 n)
          | false ↦ λ pe n.
              elim (eq_by_cmp R q e.0) as (λ b. cond b (Some e.1) (ordered.find R q es) ≡ Some v → p v ≡ false) [
                | true ↦ λ i. let same : e.1 ≡ v = cc in ap p (sym same) ∙ pe
                | false ↦ λ i. failing_entries es n q v i
              ] is
        ] refl n

    standing_entry : (es : List (K × X)) → T (is_sorted R es) → (v : X) → find p (map (λ e. e.1) es) ≡ Some v → (q : K) × (ordered.find R q es ≡ Some v)
    standing_entry [] s v is = absurd (some_is_none v (sym is))
    standing_entry (e ∷ es) s v is =
        elim (p e.1) as (λ b. cond b (Some e.1) (find p (map (λ e. e.1) es)) ≡ Some v → (q : K) × (ordered.find R q (e ∷ es) ≡ Some v)) [
          | true ↦ λ i. (e.0, head e es ∙ i)
          | false ↦ λ i. let rest = standing_entry es (right _ _ s) v i in (rest.0, lifted e es s rest.0 v rest.1)
        ] is

    -- where none is found, none passes
    pub no_value_passes : (m : Map R X) → first_value p m ≡ None → (q : K) (v : X) → maps.get m q ≡ Some v → p v ≡ false
    no_value_passes m none q v is = failing_entries (entries m) none q v (sym (get-entries m q) ∙ is)

    -- what is found stands in the map
    pub first_value-stands : (m : Map R X) (v : X) → first_value p m ≡ Some v → (q : K) × (maps.get m q ≡ Some v)
    first_value-stands m v is = let at = standing_entry (entries m) (entries_sorted m) v is in (at.0, get-entries m at.0 ∙ at.1)
