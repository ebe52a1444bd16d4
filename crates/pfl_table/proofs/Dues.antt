-- The order of expiries when a row comes, goes, is changed or is filed anew.
use Rattle.std.specs.Prelude.{◌≡◌, ◌≢◌, ◌<◌, ◌≤◌, ◌+◌, ◌-◌, ℕ, zero, suc, nat_lt, true, false, List, [], ◌∷◌, ◌++◌, length, get_or, replicate, Some, None, refl}
use Rattle.std.specs.Option.{option_map}
use Rattle.std.specs.Ordering.{eq_by_cmp}
use Rattle.std.specs.Cmp.{IsTotalOrder}
use Rattle.std.specs.FinMap.{IsAntisymmetric}
use Rattle.std.specs.declared.cmp.Ordering.{Ordering}
use Rattle.std.proofs.Common.{cond, ◌∙◌, ap, sym, subst, arith, length-append}
use Rattle.std.proofs.Math.Seq.{get_or-append_right}
use Rattle.std.proofs.lemmas.Bool.Decides.{nat_tests}
use Rattle.std.proofs.lemmas.List.{get_or_append_left, get_or_past, get_or-set_other, get_or-set_same, length-replicate}
use Rattle.pfl_base.specs.declared.state_name.StateName.{StateName}
use Rattle.pfl_base.specs.Names.{name_cmp}
use Rattle.pfl_base.proofs.ForCallers.{names_total, names_exact}
use Rattle.pfl_edits.specs.Maps as maps
use Rattle.pfl_edits.specs.Maps.{Map}
use Rattle.pfl_edits.specs.Rows.{map_of}
use Rattle.pfl_edits.proofs.ForCallers.{row_at, Distinct, Distinct-without, own_key, row_at-between, same_key, set_at-back, some_is_none}
use Rattle.pfl_containers.specs.Lists.{Link, link, Lacks, Distinct as Apart}
use Rattle.pfl_containers.specs.Mapped.{map_values}
use Rattle.pfl_containers.specs.OrderEntries.{AreEntries}
use Rattle.pfl_containers.specs.SlotIndexes.{IsIndexOf, HasNone, key_of}
use Rattle.pfl_containers.proofs.ForCallers.{map_of-none, len-map_of, made-empty, made-get, made-len, made-with, made-without}
use Rattle.pfl_table.specs.declared.row.Row.{Row}
use Rattle.pfl_table.specs.declared.keys.Expiry.{Expiry}
use Rattle.pfl_table.specs.inner.Ordering.{expiry_at, expiry_cmp, expiry_total, expiry_exact, name_in}
use Rattle.pfl_table.specs.inner.Dues.{Dues, AreDues, Files, Unfiles, NoneLater, entries_of, expiry_filed, timed}

abbrev pub its_slot : Link Row → ℕ
its_slot l = l.slot

abbrev its_name : Row → StateName
its_name r = r.state.name

-- how long rows were used since they were filed, together
abbrev pub lag : List ℕ → List (Link Row) → ℕ
lag times [] = 0
lag times (l ∷ links) = l.value.state.last - get_or times l.slot 0 + lag times links

-- ---- values by a key

module _ {X K : Type 0} {R : K → K → Ordering} (o : IsTotalOrder R) (exact : IsAntisymmetric R) (key : X → K) where
  -- a value that stands there is found by its key
  pub value-found : (front : List X) (x : X) (back : List X) → Distinct R key (front ++ x ∷ back) → row_at R key (front ++ x ∷ back) (key x) ≡ Some x
  value-found front x back d =
      row_at-between o exact key front x back (key x) (Distinct-without o exact key front x back d).0
      ∙ ap (λ b. cond b (Some x) (row_at R key (front ++ back) (key x))) (own_key o exact key (key x))

  module _ {Y : Type 0} (made : X → Y) where
    -- an index has it
    pub made-has : (front : List X) (x : X) (back : List X) (m : Map R Y) → IsIndexOf R key made (front ++ x ∷ back) m → maps.get m (key x) ≡ Some (made x)
    made-has front x back m i = made-get o exact key made (front ++ x ∷ back) m (key x) i ∙ ap (option_map made) (value-found front x back i.apart)

    -- another value of the same key, of which the same is made
    pub made-kept : (front : List X) (x y : X) (back : List X) (m : Map R Y) → IsIndexOf R key made (front ++ x ∷ back) m → key y ≡ key x
        → made y ≡ made x → IsIndexOf R key made (front ++ y ∷ back) m
    made-kept front x y back m i same same_made =
        let none : row_at R key (front ++ back) (key y) ≡ None = ap (row_at R key (front ++ back)) same
        ∙ (Distinct-without o exact key front x back i.apart).0 in
        subst (IsIndexOf R key made (front ++ y ∷ back))
        (ap (λ q. maps.insert (maps.remove m (key x)) q (made y)) same
        ∙ (ap (λ v. maps.insert (maps.remove m (key x)) (key x) v) same_made
        ∙ set_at-back o exact m (key x) (Some (made x)) None (made-has front x back m i)))
        (made-with o exact key made front y back (maps.remove m (key x)) (made-without o exact key made front x back m i) none)

-- ---- times

-- the time that is noted at a slot
timed_same : (times : List ℕ) (slot time : ℕ) → get_or (timed times slot time) slot 0 ≡ time
unfolding timed
timed_same times slot time =
    get_or-set_same _ slot time 0
    (omega (arith, length-append times (replicate (slot + 1 - length times) 0), length-replicate {A = ℕ} (slot + 1 - length times) 0))

zeros : (n k : ℕ) → get_or {A = ℕ} (replicate n 0) k 0 ≡ 0
zeros zero k = refl
zeros (suc n) zero = refl
zeros (suc n) (suc k) = zeros n k

more_zeros : (times : List ℕ) (n k : ℕ) → get_or (times ++ replicate n 0) k 0 ≡ get_or times k 0
more_zeros times n k = elim (nat_lt k (length times)) as (λ b. nat_lt k (length times) ≡ b → get_or (times ++ replicate n 0) k 0 ≡ get_or times k 0) [
  | true ↦ λ e. get_or_append_left times (replicate n 0) 0 k (grind (arith, nat_tests))
  | false ↦ λ e.
      let out : length times ≤ k = grind (arith, nat_tests) in
      get_or-append_right times (replicate n 0) k 0 out ∙ (zeros n (k - length times) ∙ sym (get_or_past times k 0 out))
] refl

-- each other time is as it was
timed_other : (times : List ℕ) (slot time k : ℕ) → k ≢ slot → get_or (timed times slot time) k 0 ≡ get_or times k 0
unfolding timed
timed_other times slot time k apart =
    get_or-set_other _ slot k time 0 apart ∙ more_zeros times (slot + 1 - length times) k

-- ---- slots

-- the others do not have the slot of one
pub lacks-others : (front : List (Link Row)) (l : Link Row) (back : List (Link Row)) → Apart (front ++ l ∷ back) → Lacks l.slot (front ++ back)
lacks-others [] l back d = d.0
lacks-others (x ∷ front) l back d = (λ same. other front d.0 (sym same), lacks-others front l back d.1)
  where
    other : (front : List (Link Row)) → Lacks x.slot (front ++ l ∷ back) → l.slot ≢ x.slot
    other [] h = h.0
    other (y ∷ front) h = other front h.1

-- Another time at a slot that no row has changes nothing of the rows.
module _ (times : List ℕ) (slot time : ℕ) where
  same_key_at : (l : Link Row) → l.slot ≢ slot → expiry_filed (timed times slot time) l ≡ expiry_filed times l
  same_key_at l apart = ap (expiry_at l.value) (timed_other times slot time l.slot apart)

  row_at-set : (links : List (Link Row)) (q : Expiry) → Lacks slot links
      → row_at expiry_cmp (expiry_filed (timed times slot time)) links q ≡ row_at expiry_cmp (expiry_filed times) links q
  row_at-set [] q lacks = refl
  row_at-set (l ∷ links) q lacks =
      ap (λ k. cond (eq_by_cmp expiry_cmp q k) (Some l) (row_at expiry_cmp (expiry_filed (timed times slot time)) links q)) (same_key_at l lacks.0)
      ∙ ap (cond (eq_by_cmp expiry_cmp q (expiry_filed times l)) (Some l)) (row_at-set links q lacks.1)

  map_of-set : (links : List (Link Row)) → Lacks slot links
      → map_of expiry_cmp (expiry_filed (timed times slot time)) links ≡ map_of expiry_cmp (expiry_filed times) links
  map_of-set [] lacks = refl
  map_of-set (l ∷ links) lacks =
      ap (λ k. maps.insert (map_of expiry_cmp (expiry_filed (timed times slot time)) links) k l) (same_key_at l lacks.0)
      ∙ ap (λ (m : Map expiry_cmp (Link Row)). maps.insert m (expiry_filed times l) l) (map_of-set links lacks.1)

  Distinct-set : (links : List (Link Row)) → Lacks slot links → Distinct expiry_cmp (expiry_filed times) links
      → Distinct expiry_cmp (expiry_filed (timed times slot time)) links
  Distinct-set [] lacks d = tt
  Distinct-set (l ∷ links) lacks d = (
    row_at-set links (expiry_filed (timed times slot time) l) lacks.1
        ∙ (ap (row_at expiry_cmp (expiry_filed times) links) (same_key_at l lacks.0) ∙ d.0),
    Distinct-set links lacks.1 d.1,
  )

  order-set : (links : List (Link Row)) (m : Map expiry_cmp ℕ) → Lacks slot links
      → IsIndexOf expiry_cmp (expiry_filed times) its_slot links m → IsIndexOf expiry_cmp (expiry_filed (timed times slot time)) its_slot links m
  order-set links m lacks i = record { is = i.is ∙ sym (ap (map_values its_slot) (map_of-set links lacks)); apart = Distinct-set links lacks i.apart }

  later-set : (links : List (Link Row)) → Lacks slot links → NoneLater times links → NoneLater (timed times slot time) links
  later-set [] lacks none = tt
  later-set (l ∷ links) lacks none =
      (subst (λ n. n ≤ l.value.state.last) (sym (timed_other times slot time l.slot lacks.0)) none.0, later-set links lacks.1 none.1)

  lag-set : (links : List (Link Row)) → Lacks slot links → lag (timed times slot time) links ≡ lag times links
  lag-set [] lacks = refl
  lag-set (l ∷ links) lacks =
      ap (λ n. l.value.state.last - n + lag (timed times slot time) links) (timed_other times slot time l.slot lacks.0)
      ∙ ap (λ n. l.value.state.last - get_or times l.slot 0 + n) (lag-set links lacks.1)

lag-between : (times : List ℕ) (front : List (Link Row)) (l : Link Row) (back : List (Link Row))
    → lag times (front ++ l ∷ back) ≡ l.value.state.last - get_or times l.slot 0 + lag times (front ++ back)
lag-between times [] l back = refl
lag-between times (x ∷ front) l back =
    let more = lag-between times front l back in
    moved (x.value.state.last - get_or times x.slot 0) (l.value.state.last - get_or times l.slot 0) (lag times (front ++ back))
    (lag times (front ++ l ∷ back)) more
  where
    moved : (a b m n : ℕ) → n ≡ b + m → a + n ≡ b + (a + m)
    moved a b m n e = omega (arith, e)

-- a row that was used since it was filed is filed at its last use
pub lag-less : (times : List ℕ) (front : List (Link Row)) (slot : ℕ) (r : Row) (back : List (Link Row)) → Lacks slot (front ++ back)
    → get_or times slot 0 < r.state.last
    → lag (timed times slot r.state.last) (front ++ link slot r ∷ back) < lag times (front ++ link slot r ∷ back)
lag-less times front slot r back lacks used =
    let before = lag-between times front (link slot r) back in
    let after = lag-between (timed times slot r.state.last) front (link slot r) back in
    let others = lag-set times slot r.state.last (front ++ back) lacks in
    let here = timed_same times slot r.state.last in
    fewer (lag times (front ++ back)) (lag (timed times slot r.state.last) (front ++ back)) r.state.last (get_or times slot 0)
    (get_or (timed times slot r.state.last) slot 0) _ _ others here used before after
  where
    fewer : (m n last was now all left : ℕ) → n ≡ m → now ≡ last → was < last → all ≡ last - was + m → left ≡ last - now + n → left < all
    fewer m n last was now all left e f u g h = omega (arith, e, f, u, g, h)

later-without : (times : List ℕ) (front : List (Link Row)) (l : Link Row) (back : List (Link Row)) → NoneLater times (front ++ l ∷ back)
    → NoneLater times (front ++ back)
later-without times [] l back none = none.1
later-without times (x ∷ front) l back none = (none.0, later-without times front l back none.1)

later-with : (times : List ℕ) (front : List (Link Row)) (l : Link Row) (back : List (Link Row)) → NoneLater times (front ++ back)
    → get_or times l.slot 0 ≤ l.value.state.last → NoneLater times (front ++ l ∷ back)
later-with times [] l back none here = (here, none)
later-with times (x ∷ front) l back none here = (none.0, later-with times front l back none.1 here)

-- ---- names

-- a row of another name has another key, whenever it was filed
pub no_expiry : (times : List ℕ) (links : List (Link Row)) (r : Row) (time : ℕ) → HasNone name_cmp its_name links r.state.name
    → row_at expiry_cmp (expiry_filed times) links (expiry_at r time) ≡ None
no_expiry times [] r time none = refl
no_expiry times (l ∷ links) r time none =
    let parts = apart none in
    ap (λ b. cond b (Some l) (row_at expiry_cmp (expiry_filed times) links (expiry_at r time))) (other parts.0) ∙ no_expiry times links r time parts.1
  where
    apart : HasNone name_cmp its_name (l ∷ links) r.state.name → (eq_by_cmp name_cmp r.state.name l.value.state.name ≡ false)
        × HasNone name_cmp its_name links r.state.name
    apart h = elim (eq_by_cmp name_cmp r.state.name l.value.state.name) as
        (λ b. cond b (Some l) (row_at name_cmp (key_of its_name) links r.state.name) ≡ None
        → (b ≡ false) × HasNone name_cmp its_name links r.state.name) [
          | true ↦ λ is. absurd (some_is_none l is)
          | false ↦ λ is. (refl, is)
        ] h

    other : eq_by_cmp name_cmp r.state.name l.value.state.name ≡ false → eq_by_cmp expiry_cmp (expiry_at r time) (expiry_filed times l) ≡ false
    other names = elim (eq_by_cmp expiry_cmp (expiry_at r time) (expiry_filed times l)) as
        (λ b. eq_by_cmp expiry_cmp (expiry_at r time) (expiry_filed times l) ≡ b → b ≡ false) [
          | true ↦ λ is.
              let same : r.state.name ≡ l.value.state.name =
              ap name_in (same_key expiry_total expiry_exact (λ (e : Expiry). e) (expiry_at r time) (expiry_filed times l) is) in
              sym (own_key names_total names_exact (λ (n : StateName). n) r.state.name) ∙ (ap (eq_by_cmp name_cmp r.state.name) same ∙ names)
          | false ↦ λ is. refl
        ] refl

-- ---- the order

-- no rows
pub dues-none : (d : Dues) (limit : ℕ) → d.list ≡ [] → d.limit ≡ limit → AreDues limit [] d
dues-none d limit none room = record {
  order = subst (IsIndexOf expiry_cmp (expiry_filed d.filed) its_slot [])
      (sym (ap (λ (es : List (Expiry × ℕ)). maps.from_sorted es) none ∙ map_of-none expiry_cmp))
      (made-empty expiry_total expiry_exact (expiry_filed d.filed) its_slot);
  used = tt;
  order_limit = room;
}

-- there is room where the rows have some
pub dues-room : (limit : ℕ) (links : List (Link Row)) (d : Dues) → AreDues limit links d → length links < limit
    → maps.len (maps.from_sorted {R = expiry_cmp} d.list) < d.limit
dues-room limit links d are room =
    omega (arith, made-len expiry_total expiry_exact (expiry_filed d.filed) its_slot links (maps.from_sorted d.list) are.order, are.order_limit, room)

-- and they have some without one of them
pub dues-few : (limit : ℕ) (front back : List (Link Row)) (l : Link Row) (d : Dues) → AreDues limit (front ++ l ∷ back) d
    → AreEntries expiry_cmp (entries_of d) → length (front ++ back) < limit
dues-few limit front back l d are entries =
    let many = made-len expiry_total expiry_exact (expiry_filed d.filed) its_slot (front ++ l ∷ back) (maps.from_sorted d.list) are.order in
    omega (arith, many, len-map_of expiry_cmp d.list entries.sorted, entries.few, are.order_limit, length-append front back, length-append front (l ∷ back))

-- a row more
pub dues-gained : (limit : ℕ) (front back : List (Link Row)) (slot : ℕ) (r : Row) (old new : Dues) → AreDues limit (front ++ back) old
    → Lacks slot (front ++ back) → HasNone name_cmp its_name (front ++ back) r.state.name → Files old new slot r
    → AreDues limit (front ++ link slot r ∷ back) new
dues-gained limit front back slot r old new are lacks none files =
    let times = timed old.filed slot r.state.last in
    let here : get_or times slot 0 ≡ r.state.last = timed_same old.filed slot r.state.last in
    let m = maps.from_sorted {R = expiry_cmp} old.list in
    let more = made-with expiry_total expiry_exact (expiry_filed times) its_slot front (link slot r) back m
    (order-set old.filed slot r.state.last (front ++ back) m lacks are.order) (no_expiry times (front ++ back) r (get_or times slot 0) none) in
    record {
      order = subst (λ (ts : List ℕ). IsIndexOf expiry_cmp (expiry_filed ts) its_slot (front ++ link slot r ∷ back)
          (maps.from_sorted new.list)) (sym files.filed)
          (subst (IsIndexOf expiry_cmp (expiry_filed times) its_slot (front ++ link slot r ∷ back))
          (ap (λ n. maps.insert m (expiry_at r n) slot) here ∙ sym files.map) more);
      used = subst (λ (ts : List ℕ). NoneLater ts (front ++ link slot r ∷ back)) (sym files.filed)
          (later-with times front (link slot r) back (later-set old.filed slot r.state.last (front ++ back) lacks are.used) (omega (arith, here)));
      order_limit = files.limit ∙ are.order_limit;
    }

-- a row less
pub dues-lost : (limit : ℕ) (front back : List (Link Row)) (slot : ℕ) (r : Row) (old new : Dues)
    → AreDues limit (front ++ link slot r ∷ back) old → Unfiles old new slot r → AreDues limit (front ++ back) new
dues-lost limit front back slot r old new are unfiles =
    let less = made-without expiry_total expiry_exact (expiry_filed old.filed) its_slot front (link slot r) back (maps.from_sorted old.list) are.order in
    record {
      order = subst (λ (ts : List ℕ). IsIndexOf expiry_cmp (expiry_filed ts) its_slot (front ++ back) (maps.from_sorted new.list)) (sym unfiles.filed)
          (subst (IsIndexOf expiry_cmp (expiry_filed old.filed) its_slot (front ++ back)) (sym unfiles.map) less);
      used = subst (λ (ts : List ℕ). NoneLater ts (front ++ back)) (sym unfiles.filed) (later-without old.filed front (link slot r) back are.used);
      order_limit = unfiles.limit ∙ are.order_limit;
    }

-- another row of the same name and timeout, that was not used last before the time that is kept
pub dues-kept : (limit : ℕ) (front back : List (Link Row)) (slot : ℕ) (was r : Row) (d : Dues)
    → AreDues limit (front ++ link slot was ∷ back) d → r.state.name ≡ was.state.name → r.timeout ≡ was.timeout → get_or d.filed slot 0 ≤ r.state.last
    → AreDues limit (front ++ link slot r ∷ back) d
dues-kept limit front back slot was r d are name timeout used = record {
  order = made-kept expiry_total expiry_exact (expiry_filed d.filed) its_slot front (link slot was) (link slot r) back (maps.from_sorted d.list) are.order
      (λ i. record { timeout = timeout i; creator = (name i).creator; time = get_or d.filed slot 0; id = (name i).id }) refl;
  used = later-with d.filed front (link slot r) back (later-without d.filed front (link slot was) back are.used) used;
  order_limit = are.order_limit;
}
