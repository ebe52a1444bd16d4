-- What a map has of values, by a key of each, when a value comes, goes or is changed. Proofs of the crates above cite these.
use Rattle.std.specs.Prelude.{◌≡◌, ◌<◌, ℕ, true, false, List, [], ◌∷◌, ◌++◌, length, Some, None, refl}
use Rattle.std.specs.Option.{option_map}
use Rattle.std.specs.declared.cmp.Ordering.{Ordering}
use Rattle.std.specs.Ordering.{eq_by_cmp}
use Rattle.std.specs.Cmp.{IsTotalOrder, eq_by_cmp_equiv}
use Rattle.std.specs.FinMap.{IsAntisymmetric}
use Rattle.std.proofs.Common.{cond, ◌∙◌, ap, sym, subst, arith}
use Rattle.pfl_edits.specs.Maps as maps
use Rattle.pfl_edits.specs.Maps.{Map}
use Rattle.pfl_edits.specs.Rows.{map_of}
use Rattle.pfl_edits.proofs.ForCallers.{row_at, Distinct, own_key, same_key, get-map_of, len-map_of, row_at-between, map_of-between, map_of-without}
use Rattle.pfl_edits.proofs.ForCallers.{Distinct-without, some_is_none, set_at-back}
use Rattle.pfl_containers.specs.Lists.{Link, link}
use Rattle.pfl_containers.specs.Mapped.{map_values}
use Rattle.pfl_containers.specs.SlotIndexes.{key_of, IsIndexOf, IsIndex, HasNone}
use Rattle.pfl_containers.proofs.Mapped.{get-map_values, len-map_values, map_values-set_at, map_values-empty}
use Rattle.pfl_containers.proofs.OrderEntries.{map_of-none}
use Rattle.pfl_containers.proofs.Places.{Stands}

module _ {K X : Type 0} {R : K → K → Ordering} (o : IsTotalOrder R) (exact : IsAntisymmetric R) (key : X → K) where
  -- a row that a scan finds has the key
  pub key_of_row : (xs : List X) (q : K) (x : X) → row_at R key xs q ≡ Some x → key x ≡ q
  key_of_row [] q x e = absurd (some_is_none x (sym e))
  key_of_row (y ∷ xs) q x e =
      elim (eq_by_cmp R q (key y)) as (λ b. eq_by_cmp R q (key y) ≡ b → cond b (Some y) (row_at R key xs q) ≡ Some x → key x ≡ q) [
        | true ↦ λ t s. let same : y ≡ x = cc in ap key (sym same) ∙ sym (same_key o exact key q (key y) t)
        | false ↦ λ t s. key_of_row xs q x s
      ] refl e

  -- where no row has a key, neither the first has it nor one after it
  not_first : (x : X) (xs : List X) (q : K) → row_at R key (x ∷ xs) q ≡ None → (eq_by_cmp R q (key x) ≡ false) × (row_at R key xs q ≡ None)
  not_first x xs q none =
      elim (eq_by_cmp R q (key x)) as (λ b. cond b (Some x) (row_at R key xs q) ≡ None → (b ≡ false) × (row_at R key xs q ≡ None)) [
        | true ↦ λ s. absurd (some_is_none x s)
        | false ↦ λ s. (refl, s)
      ] none

  -- a row of a new key leaves no two rows with one key
  pub Distinct-between : (front : List X) (y : X) (rest : List X) → Distinct R key (front ++ rest)
      → row_at R key (front ++ rest) (key y) ≡ None → Distinct R key (front ++ y ∷ rest)
  Distinct-between [] y rest d none = (none, d)
  Distinct-between (x ∷ front) y rest d none =
      let not = not_first x (front ++ rest) (key y) none in
      let apart = (eq_by_cmp_equiv o).symm (key x) (key y) ∙ not.0 in (
        row_at-between o exact key front y rest (key x) not.1 ∙ (ap (λ b. cond b (Some y) (row_at R key (front ++ rest) (key x))) apart ∙ d.0),
        Distinct-between front y rest d.1 not.1,
      )

module _ {V K : Type 0} (R : K → K → Ordering) (key : V → K) where
  stands-later : (x : Link V) (slot : ℕ) (links : List (Link V)) (r : V) → Stands slot links r → Stands slot (x ∷ links) r
  stands-later x slot links r s = record { front = x ∷ s.front; back = s.back; split = ap (λ (ls : List (Link V)). x ∷ ls) s.split }

  -- a row that is found stands at its slot
  pub found-stands : (links : List (Link V)) (q : K) (l : Link V) → row_at R (key_of key) links q ≡ Some l → Stands l.slot links l.value
  found-stands [] q l e = absurd (some_is_none l (sym e))
  found-stands (x ∷ links) q l e =
      elim (eq_by_cmp R q (key x.value)) as (λ b. cond b (Some x) (row_at R (key_of key) links q) ≡ Some l → Stands l.slot (x ∷ links) l.value) [
        | true ↦ λ is. let same : x ≡ l = cc in record { front = []; back = links; split = ap (λ (y : Link V). y ∷ links) same }
        | false ↦ λ is. stands-later x l.slot links l.value (found-stands links q l is)
      ] e

  -- a key that no row has is not that of one that stands there
  pub not_its_key : (front : List (Link V)) (l : Link V) (back : List (Link V)) (q : K) → HasNone R key (front ++ l ∷ back) q
      → eq_by_cmp R q (key l.value) ≡ false
  not_its_key [] l back q none =
      elim (eq_by_cmp R q (key l.value)) as (λ b. cond b (Some l) (row_at R (key_of key) back q) ≡ None → b ≡ false) [
        | true ↦ λ is. absurd (some_is_none l is)
        | false ↦ λ is. refl
      ] none
  not_its_key (x ∷ front) l back q none =
      elim (eq_by_cmp R q (key x.value)) as (λ b. cond b (Some x) (row_at R (key_of key) (front ++ l ∷ back) q) ≡ None → eq_by_cmp R q (key l.value) ≡ false) [
        | true ↦ λ is. absurd (some_is_none x is)
        | false ↦ λ is. not_its_key front l back q is
      ] none

  -- where no row that stands there has a key, none is found
  pub has_none : (links : List (Link V)) (q : K) → ((l : Link V) → row_at R (key_of key) links q ≡ Some l → ⊥) → HasNone R key links q
  has_none links q out = elim (row_at R (key_of key) links q) as (λ at. row_at R (key_of key) links q ≡ at → at ≡ None) [
    | None ↦ λ is. refl
    | Some l ↦ λ is. absurd (out l is)
  ] refl

-- An index of values, by a key of each: `made` says what it has of each.
module _ {X K Y : Type 0} {R : K → K → Ordering} (o : IsTotalOrder R) (exact : IsAntisymmetric R) (key : X → K) (made : X → Y) where
  -- what it finds
  pub made-get : (xs : List X) (m : Map R Y) (q : K) → IsIndexOf R key made xs m → maps.get m q ≡ option_map made (row_at R key xs q)
  made-get xs m q i =
      ap (λ (n : Map R Y). maps.get n q) i.is ∙ (get-map_values R made (map_of R key xs) q ∙ ap (option_map made) (get-map_of o exact key xs q))

  -- it is as long as the values are many
  pub made-len : (xs : List X) (m : Map R Y) → IsIndexOf R key made xs m → maps.len m ≡ length xs
  made-len xs m i = ap maps.len i.is ∙ (len-map_values R made (map_of R key xs) ∙ len-map_of o exact key xs i.apart)

  -- no values
  pub made-empty : IsIndexOf R key made [] maps.empty
  made-empty = record { is = sym (map_values-empty R made); apart = tt }

  -- a value more
  pub made-with : (front : List X) (x : X) (back : List X) (m : Map R Y) → IsIndexOf R key made (front ++ back) m → row_at R key (front ++ back) (key x) ≡ None
      → IsIndexOf R key made (front ++ x ∷ back) (maps.insert m (key x) (made x))
  made-with front x back m i none = record {
    is = ap (λ (n : Map R Y). maps.insert n (key x) (made x)) i.is
        ∙ sym (ap (map_values made) (map_of-between o exact key front x back none)
        ∙ map_values-set_at o exact made (map_of R key (front ++ back)) (key x) (Some x));
    apart = Distinct-between o exact key front x back i.apart none;
  }

  -- a value less
  pub made-without : (front : List X) (x : X) (back : List X) (m : Map R Y) → IsIndexOf R key made (front ++ x ∷ back) m
      → IsIndexOf R key made (front ++ back) (maps.remove m (key x))
  made-without front x back m i =
      let less = Distinct-without o exact key front x back i.apart in
      record {
        is = ap (λ (n : Map R Y). maps.remove n (key x)) i.is
            ∙ sym (ap (map_values made) (map_of-without o exact key front x back less.0)
            ∙ map_values-set_at o exact made (map_of R key (front ++ x ∷ back)) (key x) None);
        apart = less.1;
      }

-- An index of slots.
module _ {V K : Type 0} {R : K → K → Ordering} (o : IsTotalOrder R) (exact : IsAntisymmetric R) (key : V → K) where
  -- what an index finds
  pub index-get : (links : List (Link V)) (m : Map R ℕ) (q : K) → IsIndex R key links m
      → maps.get m q ≡ option_map (λ l. l.slot) (row_at R (key_of key) links q)
  index-get = made-get o exact (key_of key) (λ l. l.slot)

  -- it is as long as the rows are many
  pub index-len : (links : List (Link V)) (m : Map R ℕ) → IsIndex R key links m → maps.len m ≡ length links
  index-len = made-len o exact (key_of key) (λ l. l.slot)

  -- no rows
  pub index-empty : IsIndex R key [] maps.empty
  index-empty = made-empty o exact (key_of key) (λ l. l.slot)

  -- a row that stands there is found by its key
  pub stands-found : (front : List (Link V)) (l : Link V) (back : List (Link V)) → Distinct R (key_of key) (front ++ l ∷ back)
      → row_at R (key_of key) (front ++ l ∷ back) (key l.value) ≡ Some l
  stands-found front l back d =
      row_at-between o exact (key_of key) front l back (key l.value) (Distinct-without o exact (key_of key) front l back d).0
      ∙ ap (λ b. cond b (Some l) (row_at R (key_of key) (front ++ back) (key l.value))) (own_key o exact (key_of key) (key l.value))

  -- no other row has its key
  pub others-none : (front : List (Link V)) (l : Link V) (back : List (Link V)) → Distinct R (key_of key) (front ++ l ∷ back)
      → HasNone R key (front ++ back) (key l.value)
  others-none front l back d = (Distinct-without o exact (key_of key) front l back d).0

  -- a row more
  pub index-with : (front : List (Link V)) (l : Link V) (back : List (Link V)) (m : Map R ℕ) → IsIndex R key (front ++ back) m
      → HasNone R key (front ++ back) (key l.value)
      → IsIndex R key (front ++ l ∷ back) (maps.insert m (key l.value) l.slot)
  index-with = made-with o exact (key_of key) (λ l. l.slot)

  -- a row less
  pub index-without : (front : List (Link V)) (l : Link V) (back : List (Link V)) (m : Map R ℕ) → IsIndex R key (front ++ l ∷ back) m
      → IsIndex R key (front ++ back) (maps.remove m (key l.value))
  index-without = made-without o exact (key_of key) (λ l. l.slot)

  -- another row at a slot
  pub index-changed : (front : List (Link V)) (slot : ℕ) (was r : V) (back : List (Link V)) (m : Map R ℕ)
      → IsIndex R key (front ++ link slot was ∷ back) m → HasNone R key (front ++ back) (key r)
      → IsIndex R key (front ++ link slot r ∷ back) (maps.insert (maps.remove m (key was)) (key r) slot)
  index-changed front slot was r back m i none =
      index-with front (link slot r) back (maps.remove m (key was)) (index-without front (link slot was) back m i) none

  -- it has the slot of a row that stands there
  pub index-has : (front : List (Link V)) (l : Link V) (back : List (Link V)) (m : Map R ℕ) → IsIndex R key (front ++ l ∷ back) m
      → maps.get m (key l.value) ≡ Some l.slot
  index-has front l back m i = index-get (front ++ l ∷ back) m (key l.value) i ∙ ap (option_map (λ (k : Link V). k.slot)) (stands-found front l back i.apart)

  -- another row of the same key at a slot
  pub index-kept : (front : List (Link V)) (slot : ℕ) (was r : V) (back : List (Link V)) (m : Map R ℕ)
      → IsIndex R key (front ++ link slot was ∷ back) m → key r ≡ key was → IsIndex R key (front ++ link slot r ∷ back) m
  index-kept front slot was r back m i same =
      let none : HasNone R key (front ++ back) (key r) = ap (row_at R (key_of key) (front ++ back)) same ∙ others-none front (link slot was) back i.apart in
      subst (IsIndex R key (front ++ link slot r ∷ back))
      (ap (λ q. maps.insert (maps.remove m (key was)) q slot) same
      ∙ set_at-back o exact m (key was) (Some slot) None (index-has front (link slot was) back m i))
      (index-changed front slot was r back m i none)

-- Such an index, as a caller changes it: `old` and `new` are its maps before and after, and k is the key of a row.
module _ {V K : Type 0} {R : K → K → Ordering} (o : IsTotalOrder R) (exact : IsAntisymmetric R) (key : V → K) where
  -- the index of no rows, as it was made
  pub index-new : (list : List (K × ℕ)) → list ≡ [] → IsIndex R key [] (maps.from_sorted list)
  index-new list none = subst (IsIndex R key []) (sym (ap (λ (es : List (K × ℕ)). maps.from_sorted es) none ∙ map_of-none R)) (index-empty o exact key)

  -- it has room where the rows do
  pub index-room : (limit n : ℕ) (links : List (Link V)) (m : Map R ℕ) → IsIndex R key links m → n ≡ limit → length links < limit → maps.len m < n
  index-room limit n links m i same room = omega (arith, index-len o exact key links m i)

  -- what was put under a row's key is its slot
  pub gained : (front back : List (Link V)) (slot : ℕ) (r : V) (old new : Map R ℕ) (k : K) → k ≡ key r → new ≡ maps.insert old k slot
      → IsIndex R key (front ++ back) old → HasNone R key (front ++ back) (key r)
      → IsIndex R key (front ++ link slot r ∷ back) new
  gained front back slot r old new k same is i none =
      subst (IsIndex R key (front ++ link slot r ∷ back)) (sym (is ∙ ap (λ q. maps.insert old q slot) same))
      (index-with o exact key front (link slot r) back old i none)

  -- what stood under it was taken out
  pub lost : (front back : List (Link V)) (slot : ℕ) (r : V) (old new : Map R ℕ) (k : K) → k ≡ key r → new ≡ maps.remove old k
      → IsIndex R key (front ++ link slot r ∷ back) old
      → IsIndex R key (front ++ back) new
  lost front back slot r old new k same is i =
      subst (IsIndex R key (front ++ back)) (sym (is ∙ ap (maps.remove old) same)) (index-without o exact key front (link slot r) back old i)
