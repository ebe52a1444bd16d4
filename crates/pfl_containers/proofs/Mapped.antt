-- What a finite map has where each value is replaced by what a function makes of it.
use Rattle.std.specs.Prelude.{◌≡◌, ℕ, suc, Bool, true, false, ◌&&◌, List, [], ◌∷◌, map, length, Option, Some, refl}
use Rattle.std.specs.Option.{option_map}
use Rattle.std.specs.declared.cmp.Ordering.{Ordering}
use Rattle.std.specs.Ordering.{eq_by_cmp, is_lt}
use Rattle.std.specs.Cmp.{IsTotalOrder}
use Rattle.std.specs.FinMap.{IsAntisymmetric}
use Rattle.std.specs.FinMap.Entries.{find, is_sorted, below_all}
use Rattle.std.proofs.Common.{cond, T, ◌∙◌, ap, sym, subst}
use Rattle.pfl_edits.specs.Maps as maps
use Rattle.pfl_edits.specs.Maps.{Map, set_at, same_entries_map, entries_sorted}
use Rattle.pfl_edits.proofs.ForCallers.{same_map, entries-from_sorted, entries-empty, get-entries, len-entries, get-set_at}
use Rattle.pfl_containers.specs.Mapped.{at_value, map_values}

values_at : {K X Y : Type 0} (f : X → Y) (es : List (K × X)) → map (λ e. e.1) (map (at_value f) es) ≡ map f (map (λ e. e.1) es)
values_at f [] = refl
values_at f (e ∷ es) = ap (λ (ys : List _). f e.1 ∷ ys) (values_at f es)

keys_at : {K X Y : Type 0} (f : X → Y) (es : List (K × X)) → map (λ e. e.0) (map (at_value f) es) ≡ map (λ e. e.0) es
keys_at f [] = refl
keys_at f (e ∷ es) = ap (λ (ys : List _). e.0 ∷ ys) (keys_at f es)

length_at : {A B : Type 0} (g : A → B) (es : List A) → length (map g es) ≡ length es
length_at g [] = refl
length_at g (e ∷ es) = ap (λ (n : ℕ). suc n) (length_at g es)

module _ {K X Y : Type 0} (R : K → K → Ordering) (f : X → Y) where
  below_at : (k : K) (es : List (K × X)) → below_all R k (map (at_value f) es) ≡ below_all R k es
  below_at k [] = refl
  below_at k (e ∷ es) = ap (λ b. is_lt (R k e.0) && b) (below_at k es)

  sorted_at : (es : List (K × X)) → is_sorted R (map (at_value f) es) ≡ is_sorted R es
  sorted_at [] = refl
  sorted_at (e ∷ es) = ap (λ b. b && is_sorted R (map (at_value f) es)) (below_at e.0 es) ∙ ap (λ b. below_all R e.0 es && b) (sorted_at es)

  mapped : (b : Bool) (x : X) (o : Option X) → cond b (Some (f x)) (option_map f o) ≡ option_map f (cond b (Some x) o)
  mapped true x o = refl
  mapped false x o = refl

  find_at : (q : K) (es : List (K × X)) → find R q (map (at_value f) es) ≡ option_map f (find R q es)
  find_at q [] = refl
  find_at q (e ∷ es) = ap (cond (eq_by_cmp R q e.0) (Some (f e.1))) (find_at q es) ∙ mapped (eq_by_cmp R q e.0) e.1 (find R q es)

  -- its entries
  pub entries-map_values : (m : Map R X) → maps.entries (map_values f m) ≡ map (at_value f) (maps.entries m)
  unfolding map_values
  entries-map_values m = entries-from_sorted R (map (at_value f) (maps.entries m)) (subst T (sym (sorted_at (maps.entries m))) (entries_sorted m))

  -- its values, in the order of the keys
  pub values-map_values : (m : Map R X) → maps.values (map_values f m) ≡ map f (maps.values m)
  values-map_values m = ap (map (λ e. e.1)) (entries-map_values m) ∙ values_at f (maps.entries m)

  -- its keys are those that were there
  pub keys-map_values : (m : Map R X) → maps.keys (map_values f m) ≡ maps.keys m
  keys-map_values m = ap (map (λ e. e.0)) (entries-map_values m) ∙ keys_at f (maps.entries m)

  -- what it has at a key
  pub get-map_values : (m : Map R X) (q : K) → maps.get (map_values f m) q ≡ option_map f (maps.get m q)
  get-map_values m q = get-entries (map_values f m) q
      ∙ (ap (find R q) (entries-map_values m) ∙ (find_at q (maps.entries m) ∙ ap (option_map f) (sym (get-entries m q))))

  -- it is as long
  pub len-map_values : (m : Map R X) → maps.len (map_values f m) ≡ maps.len m
  len-map_values m = len-entries (map_values f m) ∙ (ap length (entries-map_values m) ∙ (length_at (at_value f) (maps.entries m) ∙ sym (len-entries m)))

  -- that of no entry has none
  pub map_values-empty : map_values f (maps.empty {R = R}) ≡ maps.empty
  map_values-empty = same_entries_map _ _ (entries-map_values maps.empty ∙ (ap (map (at_value f)) (entries-empty R) ∙ sym (entries-empty R)))

module _ {K X Y : Type 0} {R : K → K → Ordering} (o : IsTotalOrder R) (exact : IsAntisymmetric R) (f : X → Y) where
  -- what is set at a key is set in it too
  pub map_values-set_at : (m : Map R X) (k : K) (at : Option X) → map_values f (set_at m k at) ≡ set_at (map_values f m) k (option_map f at)
  map_values-set_at m k at = same_map o exact _ _ (λ q.
      get-map_values R f (set_at m k at) q
      ∙ (ap (option_map f) (get-set_at o exact m k at q)
      ∙ (choice (eq_by_cmp R q k) at (maps.get m q)
      ∙ (ap (cond (eq_by_cmp R q k) (option_map f at)) (sym (get-map_values R f m q))
      ∙ sym (get-set_at o exact (map_values f m) k (option_map f at) q)))))
    where
      choice : (b : Bool) (x y : Option X) → option_map f (cond b x y) ≡ cond b (option_map f x) (option_map f y)
      choice true x y = refl
      choice false x y = refl
