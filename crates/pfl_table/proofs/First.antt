-- The row that is due first as the rows were filed: it expires first if it was not used since.
use Rattle.std.specs.Prelude.{◌≡◌, ℕ, ◌≤◌, ◌<◌, ◌⊎◌, ◌&&◌, ◌||◌, ◌==◌, nat_lt, Bool, true, false, List, [], ◌∷◌, ◌++◌, get_or, map, length, Some, None, refl}
use Rattle.std.specs.Option.{option_map}
use Rattle.std.specs.Ordering.{eq_by_cmp, is_lt}
use Rattle.std.specs.FinMap.Entries.{is_sorted, below_all}
use Rattle.std.specs.FinMap.Entries as ordered
use Rattle.std.proofs.lemmas.Bool.Decides.{nat_tests}
use Rattle.std.proofs.Common.{cond, T, inl, inr, ◌∙◌, ap, sym, subst, arith}
use Rattle.pfl_base.specs.Names.{name_cmp}
use Rattle.pfl_base.proofs.ForCallers.{names_total, names_exact}
use Rattle.pfl_edits.specs.Maps as maps
use Rattle.pfl_edits.proofs.ForCallers.{len-entries, entries-from_sorted, row_at, Distinct, own_key, same_key, some_is_none}
use Rattle.pfl_containers.specs.Lists.{Link, Lists, Place, links_of}
use Rattle.pfl_containers.specs.SlotIndexes.{IsIndexOf, key_of}
use Rattle.pfl_containers.proofs.ForCallers.{Stands, get-map_of, key_of_row, made-get, made-len, stands-found}
use Rattle.pfl_rules.specs.declared.adaptive.Adaptive.{Adaptive}
use Rattle.pfl_table.specs.declared.row.Row.{Row}
use Rattle.pfl_table.specs.declared.keys.Expiry.{Expiry}
use Rattle.pfl_table.specs.inner.Dues.{NoneLater, expiry_filed}
use Rattle.pfl_table.specs.inner.Filed.{name_of, row_of_link}
use Rattle.pfl_table.specs.inner.Ordering.{due_at, due_before, expiry_at, expiry_of, expiry_cmp, expiry_total, expiry_exact}
use Rattle.pfl_table.specs.Tables.{row_before}
use Rattle.pfl_table.proofs.Dues.{its_slot, made-has}
use Rattle.pfl_table.proofs.Earliest.{both, entry_before, entry_before-asymmetric, entry_before-passed_on, is_true, level_name, row_before-asymmetric}
use Rattle.pfl_table.proofs.Earliest.{row_before-passed_on}
use Rattle.pfl_table.proofs.Expiring.{NoneBefore, both_answers, less-asymmetric}
use Rattle.pfl_table.proofs.Foremost.{Has, first_is, foremost, foremost-has, foremost-none, foremost-none_before, none-has, same_inside}

-- ---- entries that a key finds

found-has : (q : Expiry) (s : ℕ) (es : List (Expiry × ℕ)) → ordered.find expiry_cmp q es ≡ Some s → Has (q, s) es
found-has q s [] is = absurd (some_is_none s (sym is))
found-has q s (d ∷ es) is =
    elim (eq_by_cmp expiry_cmp q d.0) as (λ b. eq_by_cmp expiry_cmp q d.0 ≡ b → cond b (Some d.1) (ordered.find expiry_cmp q es) ≡ Some s
    → (d ≡ (q, s)) ⊎ Has (q, s) es) [
      | true ↦ λ same f. inl (ap (λ (x : Expiry). (x, d.1)) (sym (same_key expiry_total expiry_exact (λ x. x) q d.0 same))
          ∙ ap (λ (n : ℕ). (q, n)) (same_inside d.1 s f))
      | false ↦ λ apart f. inr (found-has q s es f)
    ] refl is

below-has : (q : Expiry) (es : List (Expiry × ℕ)) (e : Expiry × ℕ) → T (below_all expiry_cmp q es) → Has e es → is_lt (expiry_cmp q e.0) ≡ true
below-has q [] e below has = absurd has
below-has q (d ∷ es) e below has =
    let parts = both (is_lt (expiry_cmp q d.0)) (below_all expiry_cmp q es) below in
    elim has [
      | inl same ↦ ap (λ (x : Expiry × ℕ). is_lt (expiry_cmp q x.0)) (sym same) ∙ is_true _ parts.0
      | inr more ↦ below-has q es e parts.1 more
    ]

has-found : (e : Expiry × ℕ) (es : List (Expiry × ℕ)) → T (is_sorted expiry_cmp es) → Has e es → ordered.find expiry_cmp e.0 es ≡ Some e.1
has-found e [] sorted has = absurd has
has-found e (d ∷ es) sorted has =
    let parts = both (below_all expiry_cmp d.0 es) (is_sorted expiry_cmp es) sorted in
    elim has [
      | inl same ↦ subst (λ (x : Expiry × ℕ). ordered.find expiry_cmp x.0 (d ∷ es) ≡ Some x.1) same
          (ap (λ b. cond b (Some d.1) (ordered.find expiry_cmp d.0 es)) (own_key expiry_total expiry_exact (λ x. x) d.0))
      | inr more ↦ ap (λ b. cond b (Some d.1) (ordered.find expiry_cmp e.0 es)) (other (below-has d.0 es e parts.0 more)) ∙ has-found e es parts.1 more
    ]
  where
    other : is_lt (expiry_cmp d.0 e.0) ≡ true → eq_by_cmp expiry_cmp e.0 d.0 ≡ false
    other less = elim (eq_by_cmp expiry_cmp e.0 d.0) as (λ b. eq_by_cmp expiry_cmp e.0 d.0 ≡ b → b ≡ false) [
      | true ↦ λ is.
          let same = same_key expiry_total expiry_exact (λ x. x) e.0 d.0 is in
          let itself : is_lt (expiry_cmp d.0 d.0) ≡ true = ap (λ (x : Expiry). is_lt (expiry_cmp d.0 x)) (sym same) ∙ less in
          sym itself ∙ less-asymmetric expiry_cmp expiry_total d.0 d.0 itself
      | false ↦ λ is. refl
    ] refl

-- ---- rows of links

-- the link of a row
record LinkOf (links : List (Link Row)) (r : Row) : Type 0 where
  pub front : List (Link Row)
  pub at : Link Row
  pub back : List (Link Row)
  pub split : links ≡ front ++ at ∷ back
  pub value : at.value ≡ r

link_of : (links : List (Link Row)) (r : Row) → Has r (map row_of_link links) → LinkOf links r
link_of [] r has = absurd has
link_of (l ∷ links) r has = elim has [
  | inl same ↦ record { front = []; at = l; back = links; split = refl; value = same }
  | inr more ↦
      let at = link_of links r more in
      record { front = l ∷ at.front; at = at.at; back = at.back; split = ap (λ (ls : List (Link Row)). l ∷ ls) at.split; value = at.value }
]

pub has-between : (front : List (Link Row)) (l : Link Row) (back : List (Link Row)) → Has l.value (map row_of_link (front ++ l ∷ back))
has-between [] l back = inl refl
has-between (x ∷ front) l back = inr (has-between front l back)

none_before : {X : Type 0} (before : X → X → Bool) (m : X) (xs : List X) → ((x : X) → Has x xs → before x m ≡ false) → NoneBefore before m xs
none_before before m [] each = tt
none_before before m (y ∷ ys) each = (each y (inl refl), none_before before m ys (λ x has. each x (inr has)))

no_links : (ls : List (Link Row)) → length ls ≡ 0 → ls ≡ []
no_links [] e = refl
no_links (l ∷ ls) e = absurd (omega arith)

-- a row that a key finds, whatever the keys are, stands at its slot
stands-by : (key : Link Row → Expiry) (links : List (Link Row)) (q : Expiry) (l : Link Row) → row_at expiry_cmp key links q ≡ Some l
    → Stands l.slot links l.value
stands-by key [] q l is = absurd (some_is_none l (sym is))
stands-by key (x ∷ links) q l is = elim (eq_by_cmp expiry_cmp q (key x)) as (λ b. cond b (Some x) (row_at expiry_cmp key links q) ≡ Some l
    → Stands l.slot (x ∷ links) l.value) [
      | true ↦ λ e. record { front = []; back = links; split = ap (λ (y : Link Row). y ∷ links) (same_inside x l e) }
      | false ↦ λ e. let s = stands-by key links q l e in record { front = x ∷ s.front; back = s.back; split = ap (λ (ls : List (Link Row)). x ∷ ls) s.split }
    ] is

pub used-at : (times : List ℕ) (front : List (Link Row)) (l : Link Row) (back : List (Link Row)) → NoneLater times (front ++ l ∷ back)
    → get_or times l.slot 0 ≤ l.value.state.last
used-at times [] l back none = none.0
used-at times (x ∷ front) l back none = used-at times front l back none.1

-- ---- keys of other times

not_sooner : (m n d : ℕ) (b : Bool) → m ≤ n → (nat_lt m d || ((m == d) && b)) ≡ false → (nat_lt n d || ((n == d) && b)) ≡ false
not_sooner m n d b less h = known (nat_lt m d) (m == d) (nat_lt n d) (n == d) refl refl refl refl h
  where
    known : (p e q f : Bool) → nat_lt m d ≡ p → (m == d) ≡ e → nat_lt n d ≡ q → (n == d) ≡ f → (p || (e && b)) ≡ false → (q || (f && b)) ≡ false
    known true e q f lt eq lt2 eq2 g = both_answers true refl g
    known false e true f lt eq lt2 eq2 g =
        let above : n < d = grind (arith, nat_tests) in
        let below : d ≤ m = grind (arith, nat_tests) in
        absurd (omega (arith, above, below, less))
    known false e false false lt eq lt2 eq2 g = refl
    known false true false true lt eq lt2 eq2 g = g
    known false false false true lt eq lt2 eq2 g =
        let level : n ≡ d = grind (arith, nat_tests) in
        let below : d < m = grind (arith, nat_tests) in
        absurd (omega (arith, level, below, less))

-- what is not due before another would not be due before it later either
later-not_before : (a : Adaptive) (states : ℕ) (r q : Row) (time : ℕ) → time ≤ r.state.last
    → due_before a states (expiry_at r time) (expiry_of q) ≡ false → due_before a states (expiry_of r) (expiry_of q) ≡ false
later-not_before a states r q time used out =
    not_sooner (due_at a states (expiry_at r time)) (due_at a states (expiry_of r)) (due_at a states (expiry_of q))
    (is_lt (name_cmp (name_of r) (name_of q))) (omega (arith, used)) out

-- ---- the first row

-- a row that stands in the one list has its place there
pub record ItsPlace (rows : Lists Row) (slot : ℕ) (r : Row) : Type 0 where
  pub at : Place rows slot
  pub here : at.list ≡ 0
  pub value : at.value ≡ r

pub its-place : (rows : Lists Row) → length rows.lists ≡ 1 → (slot : ℕ) (r : Row) → Stands slot (links_of rows 0) r → ItsPlace rows slot r
its-place rows one slot r s = record {
  at = record { list = 0; within = omega (arith, one); front = s.front; value = r; back = s.back; split = s.split };
  here = refl;
  value = refl;
}

-- and is what stands there
pub its-row : (rows : Lists Row) → length rows.lists ≡ 1 → (slot : ℕ) (r : Row) → Stands slot (links_of rows 0) r → (q : Row)
    → ((at : Place rows slot) → q ≡ at.value) → q ≡ r
its-row rows one slot r s q is = let place = its-place rows one slot r s in is place.at ∙ place.value

-- The row at a slot is due first as the rows were filed.
pub record FirstFiled (a : Adaptive) (states : ℕ) (times : List ℕ) (links : List (Link Row)) (slot : ℕ) : Type 0 where
  pub row : Row
  pub stands : Stands slot links row
  pub first : (front : List (Link Row)) (l : Link Row) (back : List (Link Row)) → links ≡ front ++ l ∷ back
      → due_before a states (expiry_filed times l) (expiry_at row (get_or times slot 0)) ≡ false

module _ (a : Adaptive) (states : ℕ) (times : List ℕ) (links : List (Link Row)) (list : List (Expiry × ℕ)) (sorted : T (is_sorted expiry_cmp list))
    (i : IsIndexOf expiry_cmp (expiry_filed times) its_slot links (maps.from_sorted list)) where
  -- the row of an entry
  record RowOf (e : Expiry × ℕ) : Type 0 where
    pub link : Link Row
    pub at : row_at expiry_cmp (expiry_filed times) links e.0 ≡ Some link
    pub slot : link.slot ≡ e.1

  row_of_entry : (e : Expiry × ℕ) → Has e list → RowOf e
  row_of_entry e has =
      elim (row_at expiry_cmp (expiry_filed times) links e.0) as (λ at. row_at expiry_cmp (expiry_filed times) links e.0 ≡ at
      → option_map its_slot at ≡ Some e.1 → RowOf e) [
        | None ↦ λ at is. absurd (some_is_none e.1 (sym is))
        | Some l ↦ λ at is. record { link = l; at = at; slot = same_inside l.slot e.1 is }
      ] refl (sym (sym (get-map_of expiry_cmp list e.0 sorted)
      ∙ made-get expiry_total expiry_exact (expiry_filed times) its_slot links (maps.from_sorted list) e.0 i) ∙ has-found e list sorted has)

  -- the entry of a row
  entry-has : (front : List (Link Row)) (l : Link Row) (back : List (Link Row)) → links ≡ front ++ l ∷ back → Has (expiry_filed times l, l.slot) list
  entry-has front l back split =
      let there = subst (λ (ls : List (Link Row)). IsIndexOf expiry_cmp (expiry_filed times) its_slot ls (maps.from_sorted list)) split i in
      found-has (expiry_filed times l) l.slot list (sym (get-map_of expiry_cmp list (expiry_filed times l) sorted)
      ∙ made-has expiry_total expiry_exact (expiry_filed times) its_slot front l back (maps.from_sorted list) there)

  first_of : (e : Expiry × ℕ) → foremost (entry_before a states) list ≡ Some e → FirstFiled a states times links e.1
  first_of e is =
      let its = row_of_entry e (foremost-has (entry_before a states) list e is) in
      let key : expiry_at its.link.value (get_or times e.1 0) ≡ e.0 =
      ap (λ n. expiry_at its.link.value (get_or times n 0)) (sym its.slot)
      ∙ key_of_row expiry_total expiry_exact (expiry_filed times) links e.0 its.link its.at in
      let none = foremost-none_before (entry_before a states) (entry_before-asymmetric a states) (entry_before-passed_on a states) list e is in
      record {
        row = its.link.value;
        stands = subst (λ n. Stands n links its.link.value) its.slot (stands-by (expiry_filed times) links e.0 its.link its.at);
        first = λ front l back split.
            ap (due_before a states (expiry_filed times l)) key
            ∙ none-has (entry_before a states) e list (expiry_filed times l, l.slot) none (entry-has front l back split);
      }

  -- what its slot says
  pub first-filed : (slot : ℕ) → Some slot ≡ option_map (λ e. e.1) (foremost (entry_before a states) list) → FirstFiled a states times links slot
  first-filed slot e = elim (foremost (entry_before a states) list) as (λ o. foremost (entry_before a states) list ≡ o
      → Some slot ≡ option_map (λ d. d.1) o → FirstFiled a states times links slot) [
        | None ↦ λ is s. absurd (some_is_none slot s)
        | Some d ↦ λ is s. subst (FirstFiled a states times links) (sym (same_inside slot d.1 s)) (first_of d is)
      ] refl e

  -- there is none where there are no rows
  pub none-filed : None ≡ option_map (λ e. e.1) (foremost (entry_before a states) list) → foremost (row_before a states) (map row_of_link links) ≡ None
  none-filed e = elim (foremost (entry_before a states) list) as (λ o. foremost (entry_before a states) list ≡ o
      → None ≡ option_map (λ d. d.1) o → foremost (row_before a states) (map row_of_link links) ≡ None) [
        | None ↦ λ is s. subst (λ (ls : List (Link Row)). foremost (row_before a states) (map row_of_link ls) ≡ None) (sym (no_links links (short is))) refl
        | Some d ↦ λ is s. absurd (some_is_none d.1 (sym s))
      ] refl e
    where
      short : foremost (entry_before a states) list ≡ None → length links ≡ 0
      short is =
          sym (made-len expiry_total expiry_exact (expiry_filed times) its_slot links (maps.from_sorted list) i)
          ∙ (len-entries (maps.from_sorted list)
          ∙ (ap length (entries-from_sorted expiry_cmp list sorted) ∙ ap length (foremost-none (entry_before a states) list is)))

-- A row that is due first as it was filed at its last use expires first: no other one was filed after its last use.
module _ (a : Adaptive) (states : ℕ) (times : List ℕ) (links : List (Link Row)) (names : Distinct name_cmp (key_of name_of) links)
    (used : NoneLater times links)
    (slot : ℕ) (f : FirstFiled a states times links slot) (not_used : f.row.state.last ≤ get_or times slot 0) where
  fresh : get_or times slot 0 ≡ f.row.state.last
  fresh =
      let here = used-at times f.stands.front (record { slot = slot; value = f.row }) f.stands.back (subst (NoneLater times) f.stands.split used) in
      omega (arith, here, not_used)

  not_before : (r : Row) → Has r (map row_of_link links) → row_before a states r f.row ≡ false
  not_before r has =
      let of = link_of links r has in
      let out = ap (λ n. due_before a states (expiry_filed times of.at) (expiry_at f.row n)) (sym fresh) ∙ f.first of.front of.at of.back of.split in
      let filed = used-at times of.front of.at of.back (subst (NoneLater times) of.split used) in
      ap (λ (x : Row). row_before a states x f.row) (sym of.value) ∙ later-not_before a states of.at.value f.row (get_or times of.at.slot 0) filed out

  -- a row that is level with it has its name
  only : (r : Row) → Has r (map row_of_link links) → row_before a states r f.row ≡ false → row_before a states f.row r ≡ false → r ≡ f.row
  only r has first second =
      let of = link_of links r has in
      let name : name_of r ≡ name_of f.row = level_name a states (expiry_of r) (expiry_of f.row) first second in
      let its = found f.stands.front (record { slot = slot; value = f.row }) f.stands.back f.stands.split in
      let again = found of.front of.at of.back of.split in
      let same = same_inside of.at (record { slot = slot; value = f.row })
      (sym again ∙ (ap (row_at name_cmp (key_of name_of) links) (ap name_of of.value ∙ name) ∙ its)) in
      sym of.value ∙ ap row_of_link same
    where
      found : (front : List (Link Row)) (l : Link Row) (back : List (Link Row)) → links ≡ front ++ l ∷ back
          → row_at name_cmp (key_of name_of) links (name_of l.value) ≡ Some l
      found front l back split =
          subst (λ (ls : List (Link Row)). row_at name_cmp (key_of name_of) ls (name_of l.value) ≡ Some l) (sym split)
          (stands-found names_total names_exact name_of front l back (subst (Distinct name_cmp (key_of name_of)) split names))

  pub first-fresh : foremost (row_before a states) (map row_of_link links) ≡ Some f.row
  first-fresh =
      first_is (row_before a states)
      (row_before-asymmetric a states)
      (row_before-passed_on a states)
      f.row (map row_of_link links)
      (subst (λ (ls : List (Link Row)). Has f.row (map row_of_link ls)) (sym f.stands.split)
      (has-between f.stands.front (record { slot = slot; value = f.row }) f.stands.back))
      (none_before (row_before a states) f.row (map row_of_link links) not_before)
      only
