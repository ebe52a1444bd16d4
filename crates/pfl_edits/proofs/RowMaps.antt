-- Rows, each under a key of its own, as a map. R is the order of the keys, and `key` says the key of a row.
use Rattle.std.specs.Prelude.{List, [], ◌∷◌, Option, Some, None, ◌≡◌, Bool, true, false, refl, ◌++◌, ◌+◌, is_some, length, ℕ, take, drop, suc, map}
use Rattle.std.specs.Cmp.{IsTotalOrder, eq_by_cmp_equiv}
use Rattle.std.specs.FinMap.{IsAntisymmetric}
use Rattle.std.specs.FinMap.Entries.{put, by_order}
use Rattle.std.specs.Ordering.{eq_by_cmp, is_eq}
use Rattle.std.specs.declared.cmp.Ordering.{Ordering}
use Rattle.std.proofs.Common.{cond, ◌∙◌, ap, sym, T, subst, add-one}
use Rattle.std.proofs.lemmas.List.{append-nil}
use Rattle.pfl_edits.specs.Rows.{map_of}
use Rattle.pfl_edits.specs.Maps.{set_at}
use Rattle.pfl_edits.specs.Ordered.{IsBelow, IsRising}
use Rattle.pfl_edits.specs.Maps as maps
use Rattle.pfl_edits.proofs.Places.{equal_is, set_at-set_at, set_at-same}
use Rattle.pfl_edits.proofs.Maps.{get-empty, get-insert, same_map, get-remove, len-empty, len-insert, entries-empty, entries-insert}

-- the first row with the key
abbrev pub row_at : {K X : Type 0} → (K → K → Ordering) → (X → K) → List X → K → Option X
row_at R key [] q = None
row_at R key (x ∷ xs) q = cond (eq_by_cmp R q (key x)) (Some x) (row_at R key xs q)

-- no two rows have one key
abbrev pub Distinct : {K X : Type 0} → (K → K → Ordering) → (X → K) → List X → Type 0
Distinct R key [] = Unit {0}
Distinct R key (x ∷ xs) = (row_at R key xs (key x) ≡ None) × Distinct R key xs

-- a value is not none
pub some_is_none : {X : Type 0} (x : X) → Some x ≡ None → ⊥
some_is_none x e = cc

swapped : {X : Type 0} (a b : Bool) (x y z : Option X) → (a ≡ true → b ≡ true → ⊥) → cond a x (cond b y z) ≡ cond b y (cond a x z)
swapped true true x y z apart = absurd (apart refl refl)
swapped true false x y z apart = refl
swapped false b x y z apart = refl

module _ {K X : Type 0} {R : K → K → Ordering} (o : IsTotalOrder R) (exact : IsAntisymmetric R) (key : X → K) where
  -- keys that compare as equal are one
  pub same_key : (p q : K) → eq_by_cmp R p q ≡ true → p ≡ q
  same_key p q e = exact p q (equal_is (R p q) e)

  -- a key compares as equal to itself
  pub own_key : (q : K) → eq_by_cmp R q q ≡ true
  own_key q = (eq_by_cmp_equiv o).refl q

  -- the map has what a scan of the rows finds
  pub get-map_of : (xs : List X) (q : K) → maps.get (map_of R key xs) q ≡ row_at R key xs q
  get-map_of [] q = get-empty R q
  get-map_of (x ∷ xs) q = get-insert o (map_of R key xs) (key x) x q ∙ ap (cond (eq_by_cmp R q (key x)) (Some x)) (get-map_of xs q)

  not_same : (x : X) (xs : List X) (q : K) → row_at R key (x ∷ xs) q ≡ None → eq_by_cmp R q (key x) ≡ false
  not_same x xs q none =
      elim (eq_by_cmp R q (key x)) as (λ b. cond b (Some x) (row_at R key xs q) ≡ None → b ≡ false) [
        | true ↦ λ s. absurd (some_is_none x s)
        | false ↦ λ s. refl
      ] none

  not_later : (x : X) (xs : List X) (q : K) → row_at R key (x ∷ xs) q ≡ None → row_at R key xs q ≡ None
  not_later x xs q none = ap (λ b. cond b (Some x) (row_at R key xs q)) (sym (not_same x xs q none)) ∙ none

  -- what a row between others adds
  pub row_at-between : (front : List X) (y : X) (rest : List X) (q : K) → row_at R key (front ++ rest) (key y) ≡ None
      → row_at R key (front ++ y ∷ rest) q ≡ cond (eq_by_cmp R q (key y)) (Some y) (row_at R key (front ++ rest) q)
  row_at-between [] y rest q none = refl
  row_at-between (x ∷ front) y rest q none =
      ap (cond (eq_by_cmp R q (key x)) (Some x)) (row_at-between front y rest q (not_later x (front ++ rest) (key y) none))
      ∙ swapped (eq_by_cmp R q (key x)) (eq_by_cmp R q (key y)) (Some x) (Some y) (row_at R key (front ++ rest) q)
      (λ a b. absurd (subst T (sym (own_key (key y))
      ∙ (ap (λ k. eq_by_cmp R (key y) k) (sym (same_key q (key y) b) ∙ same_key q (key x) a) ∙ not_same x (front ++ rest) (key y) none)) tt))

  -- a new row between others is an entry more
  pub map_of-between : (front : List X) (y : X) (rest : List X) → row_at R key (front ++ rest) (key y) ≡ None
      → map_of R key (front ++ y ∷ rest) ≡ maps.insert (map_of R key (front ++ rest)) (key y) y
  map_of-between front y rest none = same_map o exact _ _ (λ q.
      get-map_of (front ++ y ∷ rest) q ∙ row_at-between front y rest q none
      ∙ sym (get-insert o (map_of R key (front ++ rest)) (key y) y q ∙ ap (cond (eq_by_cmp R q (key y)) (Some y)) (get-map_of (front ++ rest) q)))

  hidden : (b : Bool) (x : X) (z : Option X) → (b ≡ true → z ≡ None) → z ≡ cond b None (cond b (Some x) z)
  hidden true x z h = h refl
  hidden false x z h = refl

  -- and without it that entry is gone
  pub map_of-without : (front : List X) (y : X) (rest : List X) → row_at R key (front ++ rest) (key y) ≡ None
      → map_of R key (front ++ rest) ≡ maps.remove (map_of R key (front ++ y ∷ rest)) (key y)
  map_of-without front y rest none = same_map o exact _ _ (λ q.
      get-map_of (front ++ rest) q
      ∙ hidden (eq_by_cmp R q (key y)) y _ (λ t. ap (row_at R key (front ++ rest)) (same_key q (key y) t) ∙ none)
      ∙ ap (cond (eq_by_cmp R q (key y)) None) (sym (get-map_of (front ++ y ∷ rest) q ∙ row_at-between front y rest q none))
      ∙ sym (get-remove o (map_of R key (front ++ y ∷ rest)) (key y) q))

  -- and so does a row less, whose key no row has then
  pub Distinct-without : (front : List X) (y : X) (rest : List X) → Distinct R key (front ++ y ∷ rest)
      → (row_at R key (front ++ rest) (key y) ≡ None) × Distinct R key (front ++ rest)
  Distinct-without [] y rest d = d
  Distinct-without (x ∷ front) y rest d =
      let later = Distinct-without front y rest d.1 in
      let here = sym (row_at-between front y rest (key x) later.0) ∙ d.0 in
      let apart = cond_none (eq_by_cmp R (key x) (key y)) y (row_at R key (front ++ rest) (key x)) here in
      (ap (λ b. cond b (Some x) (row_at R key (front ++ rest) (key y))) ((eq_by_cmp_equiv o).symm (key y) (key x) ∙ apart.0) ∙ later.0, (apart.1, later.1))
    where
      cond_none : (b : Bool) (u : X) (z : Option X) → cond b (Some u) z ≡ None → (b ≡ false) × (z ≡ None)
      cond_none true u z e = absurd (some_is_none u e)
      cond_none false u z e = (refl, e)

  -- as many entries as rows
  pub len-map_of : (xs : List X) → Distinct R key xs → maps.len (map_of R key xs) ≡ length xs
  len-map_of [] d = len-empty R X
  len-map_of (x ∷ xs) d =
      len-insert o (map_of R key xs) (key x) x
      ∙ ap (λ at. cond (is_some at) (maps.len (map_of R key xs)) (maps.len (map_of R key xs) + 1)) (get-map_of xs (key x) ∙ d.0)
      ∙ (ap (λ n. n + 1) (len-map_of xs d.1) ∙ add-one (length xs))

-- What is done at the row with the key k, which is at place i.
module _ {K X : Type 0} {R : K → K → Ordering} (o : IsTotalOrder R) (exact : IsAntisymmetric R) (key : X → K)
    (rows : List X) (i : ℕ) (x : X) (k : K) (split : rows ≡ take i rows ++ x ∷ drop (suc i) rows) (named : key x ≡ k) (d : Distinct R key rows) where
  others : (row_at R key (take i rows ++ drop (suc i) rows) (key x) ≡ None) × Distinct R key (take i rows ++ drop (suc i) rows)
  others = Distinct-without o exact key (take i rows) x (drop (suc i) rows) (subst (Distinct R key) split d)

  pub map_without : map_of R key (take i rows ++ drop (suc i) rows) ≡ set_at (map_of R key rows) k None
  map_without =
      map_of-without o exact key (take i rows) x (drop (suc i) rows) others.0
      ∙ ap (λ (ys : List X). maps.remove (map_of R key ys) (key x)) (sym split) ∙ ap (maps.remove (map_of R key rows)) named

  module _ (y : X) (same : key y ≡ k) where
    absent : row_at R key (take i rows ++ drop (suc i) rows) (key y) ≡ None
    absent = ap (row_at R key (take i rows ++ drop (suc i) rows)) (same ∙ sym named) ∙ others.0

    pub map_with : map_of R key (take i rows ++ y ∷ drop (suc i) rows) ≡ set_at (map_of R key rows) k (Some y)
    map_with =
        map_of-between o exact key (take i rows) y (drop (suc i) rows) absent
        ∙ ap (λ m. maps.insert m (key y) y) map_without
        ∙ ap (λ q. maps.insert (set_at (map_of R key rows) k None) q y) same
        ∙ set_at-set_at o exact (map_of R key rows) k None (Some y)

-- What is done where no row has the key k.
module _ {K X : Type 0} {R : K → K → Ordering} (o : IsTotalOrder R) (exact : IsAntisymmetric R) (key : X → K)
    (rows : List X) (k : K) (none : row_at R key rows k ≡ None) where
  pub map_as_it_is : map_of R key rows ≡ set_at (map_of R key rows) k None
  map_as_it_is = sym (set_at-same o exact (map_of R key rows) k None (get-map_of o exact key rows k ∙ none))

  module _ (y : X) (same : key y ≡ k) (d : Distinct R key rows) where
    nowhere : row_at R key (rows ++ []) (key y) ≡ None
    nowhere = ap (λ (ys : List X). row_at R key ys (key y)) (append-nil rows) ∙ (ap (row_at R key rows) same ∙ none)

    pub map_more : map_of R key (rows ++ y ∷ []) ≡ set_at (map_of R key rows) k (Some y)
    map_more =
        map_of-between o exact key rows y [] nowhere
        ∙ ap (λ (ys : List X). maps.insert (map_of R key ys) (key y) y) (append-nil rows)
        ∙ ap (λ q. maps.insert (map_of R key rows) q y) same

-- a row as an entry of a map
abbrev pub filed : {K X : Type 0} → (X → K) → X → K × X
filed key x = (key x, x)

values_filed : {K X : Type 0} (key : X → K) (xs : List X) → map (λ e. e.1) (map (filed key) xs) ≡ xs
values_filed key [] = refl
values_filed key (x ∷ xs) = ap (λ (ys : List _). x ∷ ys) (values_filed key xs)

keys_filed : {K X : Type 0} (key : X → K) (xs : List X) → map (λ e. e.0) (map (filed key) xs) ≡ map key xs
keys_filed key [] = refl
keys_filed key (x ∷ xs) = ap (λ (ys : List _). key x ∷ ys) (keys_filed key xs)

module _ {K X : Type 0} (R : K → K → Ordering) (key : X → K) where
  -- no row has a key that is below all
  pub row_at-below : (q : K) (xs : List X) → IsBelow R key q xs → row_at R key xs q ≡ None
  row_at-below q [] b = refl
  row_at-below q (x ∷ xs) b = ap (λ r. cond (is_eq r) (Some x) (row_at R key xs q)) b.0 ∙ row_at-below q xs b.1

  -- where the keys rise, no two rows have one
  pub Distinct-rising : (xs : List X) → IsRising R key xs → Distinct R key xs
  Distinct-rising [] r = tt
  Distinct-rising (x ∷ xs) r = (row_at-below (key x) xs r.0, Distinct-rising xs r.1)

  put_first : (x : X) (xs : List X) → IsBelow R key (key x) xs → put R (key x) x (map (filed key) xs) ≡ filed key x ∷ map (filed key) xs
  put_first x [] b = refl
  put_first x (y ∷ xs) b =
      ap (λ r. by_order r (filed key x ∷ map (filed key) (y ∷ xs)) ((key y, x) ∷ map (filed key) xs) (filed key y ∷ put R (key x) x (map (filed key) xs))) b.0

module _ {K X : Type 0} {R : K → K → Ordering} (o : IsTotalOrder R) (key : X → K) where
  -- rows in order are the entries of their map,
  pub entries-map_of : (xs : List X) → IsRising R key xs → maps.entries (map_of R key xs) ≡ map (filed key) xs
  entries-map_of [] r = entries-empty R
  entries-map_of (x ∷ xs) r = entries-insert o (map_of R key xs) (key x) x ∙ (ap (put R (key x) x) (entries-map_of xs r.1) ∙ put_first R key x xs r.0)

  -- its values
  pub values-map_of : (xs : List X) → IsRising R key xs → maps.values (map_of R key xs) ≡ xs
  values-map_of xs r = ap (map (λ e. e.1)) (entries-map_of xs r) ∙ values_filed key xs

  -- and its keys
  pub keys-map_of : (xs : List X) → IsRising R key xs → maps.keys (map_of R key xs) ≡ map key xs
  keys-map_of xs r = ap (map (λ e. e.0)) (entries-map_of xs r) ∙ keys_filed key xs
