-- A finite map as a value: its entries in the order of their keys. It is std's `FinMap` in names and laws,
-- but its functions may be unfolded, so that definitions over it compute on literals. This project's profile.
use Rattle.std.specs.Prelude.{◌≡◌, ℕ, Bool, true, false, not, List, [], map, length, is_some, Option, Some, None, refl}
use Rattle.std.specs.declared.cmp.Ordering.{Ordering}
use Rattle.std.specs.Ordering.{eq_by_cmp}
use Rattle.std.specs.FinMap.Entries.{put, find, where_key, is_sorted, is_sorted-where_key}
use Rattle.std.proofs.Common.{T, sym, subst}
use Rattle.std.specs.Coded.{Coded, coded×, coded_list}
use base.Stored.{coded_via}
use mathlib.Core.HLevel.{Σ_prop_path}
use lib.Dec.{T_prop}

-- entries in the strict order of their keys
pub record Map {K : Type 0} (R : K → K → Ordering) (X : Type 0) : Type 0 where
  pub list : List (K × X)
  pub sorted : T (is_sorted R list)

module _ {K X : Type 0} {R : K → K → Ordering} where
  -- in the keys' order
  unfoldable pub entries : Map R X → List (K × X)
  entries m = m.list

  -- the keys rise
  pub entries_sorted : (m : Map R X) → T (is_sorted R (entries m))
  unfolding entries
  entries_sorted m = m.sorted

  -- maps with the same entries are one
  pub same_entries_map : (m n : Map R X) → entries m ≡ entries n → m ≡ n
  unfolding entries
  same_entries_map m n e =
      let pairs : ◌≡◌ {A = (es : List (K × X)) × T (is_sorted R es)} (m.list, m.sorted) (n.list, n.sorted) = Σ_prop_path (λ es. T_prop _) e in
      λ i. record { list = (pairs i).0; sorted = (pairs i).1 }

  -- its code, from those of the keys and the values
  abbrev pub code : Coded K → Coded X → Coded (Map R X)
  code k x = coded_via (coded_list (coded× k x)) entries same_entries_map

  -- no entry
  unfoldable pub empty : Map R X
  empty = record { list = []; sorted = tt }

  -- an order that is not total may leave a list out of order, and then the map is the one given
  unfoldable pub checked : (es : List (K × X)) (b : Bool) → is_sorted R es ≡ b → Map R X → Map R X
  checked es true e m = record { list = es; sorted = subst T (sym e) tt }
  checked es false e m = m

  -- the value at a key
  unfoldable pub get : Map R X → K → Option X
  get m q = find R q (entries m)

  -- whether there is one
  abbrev pub contains_key : Map R X → K → Bool
  contains_key m q = is_some (get m q)

  -- with this value at the key
  unfoldable pub insert : Map R X → K → X → Map R X
  insert m k v = checked (put R k v (entries m)) _ refl m

  -- the entries whose keys pass a test
  unfoldable pub retain_keys : Map R X → (K → Bool) → Map R X
  retain_keys m p = record { list = where_key R p (entries m); sorted = is_sorted-where_key R p (entries m) (entries_sorted m) }

  -- without the key
  unfoldable pub remove : Map R X → K → Map R X
  remove m k = retain_keys m (λ x. not (eq_by_cmp R k x))

  -- how many entries there are
  unfoldable pub len : Map R X → ℕ
  len m = length (entries m)

  -- the keys in order
  abbrev pub keys : Map R X → List K
  keys m = map (λ e. e.0) (entries m)

  -- the values in the order of their keys
  abbrev pub values : Map R X → List X
  values m = map (λ e. e.1) (entries m)

  -- the map of a list in order, and else the empty one
  unfoldable pub from_sorted : List (K × X) → Map R X
  from_sorted es = checked es _ refl empty

  -- the map with this at the key
  abbrev pub set_at : Map R X → K → Option X → Map R X
  set_at m k None = remove m k
  set_at m k (Some v) = insert m k v
