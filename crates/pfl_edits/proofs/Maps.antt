-- What is found in a map, how many entries it has, and when two maps are one.
--
-- A lemma with `o` asks that R is a total order; `same_map` asks too that keys which compare as equal are one.
use Rattle.std.specs.Prelude.{◌≡◌, List, [], ◌∷◌, length, refl, Bool, true, false, None, ℕ, ◌+◌, ◌-◌, not, Some}
use Rattle.std.specs.Cmp.{IsTotalOrder, alike_right, eq_by_cmp_equiv}
use Rattle.std.specs.FinMap.{IsAntisymmetric}
use Rattle.std.specs.FinMap.Entries.{is_sorted, find, is_some-find, find-where_key, put, is_sorted-put, find-put, length_without, length-put, same_entries}
use Rattle.std.specs.List.{list_any}
use Rattle.std.specs.Ordering.{eq_by_cmp, is_eq}
use Rattle.std.specs.declared.cmp.Ordering.{Ordering}
use Rattle.std.specs.declared.cmp.Ordering.TheVariants.{Equal}
use Rattle.std.proofs.Common.{arith, T, cond, ◌∙◌, ap, sym}
use Rattle.pfl_edits.specs.Maps.{Map, entries, checked, get, len, same_entries_map, empty, contains_key, keys, retain_keys, from_sorted}
use Rattle.pfl_edits.specs.Maps.{entries_sorted, insert, remove}

no_length : {A : Type 0} (es : List A) → length es ≡ 0 → es ≡ []
no_length [] e = refl
no_length (x ∷ es) e = absurd (omega arith)

module _ {K X : Type 0} {R : K → K → Ordering} where
  entries-checked : (es : List (K × X)) (b : Bool) (e : is_sorted R es ≡ b) (m : Map R X) → T b → entries (checked es b e m) ≡ es
  unfolding entries checked
  entries-checked es true e m h = refl
  entries-checked es false e m h = absurd h

  -- what a map has at a key is what a search of its entries finds
  pub get-entries : (m : Map R X) (q : K) → get m q ≡ find R q (entries m)
  unfolding get
  get-entries m q = refl

  -- its length is that of its entries
  pub len-entries : (m : Map R X) → len m ≡ length (entries m)
  unfolding len
  len-entries m = refl

  -- a map with no entry is the empty one
  pub empty_of_len : (m : Map R X) → len m ≡ 0 → m ≡ empty
  unfolding len entries empty
  empty_of_len m e = same_entries_map m empty (no_length m.list e)

  -- a map has a key if that is among its keys
  pub contains_key-keys : (m : Map R X) (q : K) → contains_key m q ≡ list_any (eq_by_cmp R q) (keys m)
  unfolding get
  contains_key-keys m q = is_some-find R q (entries m)

  -- what is found after keys were dropped, by a test that answers alike at keys which compare as equal
  pub get-retain_keys : (m : Map R X) (p : K → Bool) (q : K) → ((x : K) → R q x ≡ Equal → p x ≡ p q) → get (retain_keys m p) q ≡ cond (p q) (get m q) None
  unfolding get retain_keys entries
  get-retain_keys m p q alike = find-where_key R p q alike m.list

module _ {K X : Type 0} (R : K → K → Ordering) where
  -- a list in order is the entries of its map
  pub entries-from_sorted : (es : List (K × X)) → T (is_sorted R es) → entries (from_sorted {R = R} es) ≡ es
  unfolding from_sorted
  entries-from_sorted es h = entries-checked es _ refl empty h

  -- the empty map has no entry
  pub entries-empty : entries (empty {X = X} {R = R}) ≡ []
  unfolding entries empty
  entries-empty = refl

  -- and nothing at any key
  pub get-empty : (q : K) → get (empty {X = X} {R = R}) q ≡ None
  unfolding entries empty get
  get-empty q = refl

-- the empty map has length 0
pub len-empty : {K : Type 0} (R : K → K → Ordering) (X : Type 0) → len (empty {X = X} {R = R}) ≡ 0
unfolding entries empty len
len-empty R X = refl

one_less : (b : Bool) (a n : ℕ) → cond b 1 0 + a ≡ n → a ≡ cond b (n - 1) n
one_less true a n e = omega arith
one_less false a n e = omega arith

turned : {A : Type 0} (b : Bool) (x y : A) → cond (not b) x y ≡ cond b y x
turned true x y = refl
turned false x y = refl

module _ {K X : Type 0} {R : K → K → Ordering} (o : IsTotalOrder R) where
  -- the entries after an insertion
  pub entries-insert : (m : Map R X) (k : K) (v : X) → entries (insert m k v) ≡ put R k v (entries m)
  unfolding insert
  entries-insert m k v = entries-checked _ _ refl m (is_sorted-put R o k v (entries m) (entries_sorted m))

  -- what is found after an insertion: the new value at its key
  pub get-insert : (m : Map R X) (k : K) (v : X) (q : K) → get (insert m k v) q ≡ cond (eq_by_cmp R q k) (Some v) (get m q)
  unfolding get
  get-insert m k v q = ap (find R q) (entries-insert m k v) ∙ find-put R o q k v (entries m)

  -- and after a removal: nothing at its key
  pub get-remove : (m : Map R X) (k q : K) → get (remove m k) q ≡ cond (eq_by_cmp R q k) None (get m q)
  unfolding remove
  get-remove m k q = get-retain_keys m (λ x. not (eq_by_cmp R k x)) q (λ x t. ap (λ r. not (is_eq r)) (sym (alike_right o q x k t)))
      ∙ turned (eq_by_cmp R k q) _ _ ∙ ap (λ b. cond b None (get m q)) ((eq_by_cmp_equiv o).symm k q)

  len_before_remove : (m : Map R X) (k : K) → cond (contains_key m k) 1 0 + len (remove m k) ≡ len m
  unfolding len get remove retain_keys entries
  len_before_remove m k = length_without R o k m.list m.sorted

  -- a removal of a key that was there makes the map shorter by one
  pub len-remove : (m : Map R X) (k : K) → len (remove m k) ≡ cond (contains_key m k) (len m - 1) (len m)
  len-remove m k = one_less (contains_key m k) _ _ (len_before_remove m k)

  -- an insertion at a new key makes it longer by one
  pub len-insert : (m : Map R X) (k : K) (v : X) → len (insert m k v) ≡ cond (contains_key m k) (len m) (len m + 1)
  unfolding len get
  len-insert m k v = ap length (entries-insert m k v) ∙ length-put R o k v (entries m) (entries_sorted m)

  -- maps that find the same at each key are one
  pub same_map : IsAntisymmetric R → (m n : Map R X) → ((q : K) → get m q ≡ get n q) → m ≡ n
  unfolding get
  same_map same m n is = same_entries_map m n (same_entries R o same (entries m) (entries n) (entries_sorted m) (entries_sorted n) is)

-- what a map needs to compute on literals
unfoldable pub computing : ℕ
unfolding entries empty checked get insert retain_keys remove len from_sorted
computing = 0
