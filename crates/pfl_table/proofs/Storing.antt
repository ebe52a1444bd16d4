-- Rows at slots and their indexes: what an index finds stands there, and all is kept when a row comes, goes or is changed.
use Rattle.std.specs.Prelude.{◌≡◌, ℕ, ◌<◌, ◌≤◌, List, [], ◌∷◌, ◌++◌, length, get_or, Option, Some, None, IfSome, refl}
use Rattle.std.specs.Option.{option_map}
use Rattle.std.specs.declared.cmp.Ordering.{Ordering}
use Rattle.std.specs.Ordering.{eq_by_cmp}
use Rattle.std.proofs.Common.{cond, ◌∙◌, ap, sym, subst, arith}
use Rattle.pfl_base.specs.declared.direction.Dir.{Dir}
use Rattle.pfl_base.specs.declared.direction.Dir.TheVariants.{Inbound, Outbound}
use Rattle.pfl_base.specs.declared.state_name.StateName.{StateName}
use Rattle.pfl_base.specs.Names.{name_cmp}
use Rattle.pfl_base.proofs.ForCallers.{names_total, names_exact}
use Rattle.pfl_edits.specs.Ordered.{IsRising}
use Rattle.pfl_containers.specs.Lists.{Link, link, Lists, AreLists, Lacks, Place, Distinct as Apart, links_of, with_links, count_of}
use Rattle.pfl_containers.specs.NameKeys.{by_name_cmp}
use Rattle.pfl_containers.specs.SlotIndexes.{HasNone, key_of}
use Rattle.pfl_containers.proofs.ForCallers.{key_of_row, Stands, length-with_links, links_of-same, found-stands, stands-found}
use Rattle.pfl_edits.proofs.ForCallers.{row_at, Distinct, Distinct-rising, some_is_none}
use Rattle.pfl_track.specs.States.{IsState}
use Rattle.pfl_table.specs.declared.row.Row.{Row}
use Rattle.pfl_table.specs.declared.indexes.Indexes.{Indexes}
use Rattle.pfl_table.specs.inner.Ordering.{Flow, by_name, flow_cmp}
use Rattle.pfl_table.specs.inner.Filed.{AreIndexes, AreStated, IsStored, FoundAt, HasNoKey, Gains, Loses, MayGain, MayChange, Changes, Refiles}
use Rattle.pfl_table.specs.inner.Filed.{SameKeys, NameGap, GainsRow, LosesRow, ChangesRow, link_found, name_of, wire_flow, stack_flow, slot_of_link}
use Rattle.pfl_table.proofs.Dues.{lacks-others}
use Rattle.pfl_table.proofs.Ranked.{rising-with, rising-without, rising-changed}
use Rattle.pfl_table.proofs.Replaced.{stated-with, stated-without}

-- a row that is found by its name as a key of indexes
pub by_name-found : (links : List (Link Row)) (name : StateName)
    → row_at by_name_cmp (key_of by_name) links (record { 0 = name }) ≡ row_at name_cmp (key_of name_of) links name
by_name-found [] name = refl
by_name-found (l ∷ links) name = ap (cond (eq_by_cmp name_cmp name (name_of l.value)) (Some l)) (by_name-found links name)

pub found-all : {K : Type 0} (R : K → K → Ordering) (key : Row → K) (links : List (Link Row)) (q : K) (at : Option (Link Row))
    → row_at R (key_of key) links q ≡ at → IfSome at (λ l. Stands l.slot links l.value)
found-all R key links q None is = tt
found-all R key links q (Some l) is = found-stands R key links q l is

-- a row that stands in the one list has its place there
abbrev pub stands-place : (rows : Lists Row) → length rows.lists ≡ 1 → (slot : ℕ) (v : Row) → Stands slot (links_of rows 0) v → Place rows slot
stands-place rows one slot v stands =
    record { list = 0; within = omega (arith, one); front = stands.front; value = v; back = stands.back; split = stands.split }

-- the slot of a row that was found by its key
abbrev pub slot-found : {K : Type 0} (R : K → K → Ordering) (key : Row → K) (links : List (Link Row)) (q : K) (found : Option ℕ)
    → found ≡ option_map slot_of_link (row_at R (key_of key) links q) → FoundAt links found
slot-found R key links q found is = record {
  which = row_at R (key_of key) links q;
  is = is;
  stands = found-all R key links q (row_at R (key_of key) links q) refl;
}

-- a slot that an index found is a place of the list
pub record FoundPlace (rows : Lists Row) (slot : ℕ) (which : Option (Link Row)) : Type 0 where
  pub at : Place rows slot
  pub here : at.list ≡ 0
  pub is : which ≡ Some (link slot at.value)

pub found-place : (rows : Lists Row) (links : List (Link Row)) (found : Option ℕ) (slot : ℕ) → links ≡ links_of rows 0 → found ≡ Some slot
    → length rows.lists ≡ 1 → (f : FoundAt links found) → FoundPlace rows slot f.which
found-place rows links found slot are is one f = place f.which (sym is ∙ f.is) f.stands
  where
    place : (which : Option (Link Row)) → Some slot ≡ option_map slot_of_link which → IfSome which (λ l. Stands l.slot links l.value)
        → FoundPlace rows slot which
    place None is stands = absurd (some_is_none slot is)
    place (Some l) is stands =
        let same : l.slot ≡ slot = cc in
        let split : links_of rows 0 ≡ stands.front ++ link slot l.value ∷ stands.back =
        sym are ∙ (stands.split ∙ ap (λ n. stands.front ++ link n l.value ∷ stands.back) same) in
        record {
          at = record { list = 0; within = omega (arith, one); front = stands.front; value = l.value; back = stands.back; split = split };
          here = refl;
          is = ap (λ n. Some (link n l.value)) same;
        }

-- where the row of a name stands
pub record NamePlace (rows : Lists Row) (slot : ℕ) (name : StateName) : Type 0 where
  pub at : Place rows slot
  pub here : at.list ≡ 0
  pub is : row_at name_cmp (key_of name_of) (links_of rows 0) name ≡ Some (link slot at.value)
  pub named : name_of at.value ≡ name

pub name-place : {A : Type 0} (rows : Lists Row) (i : Indexes A) → IsStored rows i → (name : StateName) (slot : ℕ)
    → Some slot ≡ option_map slot_of_link (row_at name_cmp (key_of name_of) (links_of rows 0) name) → NamePlace rows slot name
name-place rows i kept name slot is =
    let links : List (Link Row) = links_of rows 0 in
    let p = found-place rows links (Some slot) slot refl refl kept.one (slot-found name_cmp name_of links name (Some slot) is) in
    record { at = p.at; here = p.here; is = p.is; named = key_of_row names_total names_exact (key_of name_of) links name (link slot p.at.value) p.is }

-- the slot at which a row stands is that of its name
pub place-named : {A : Type 0} (rows : Lists Row) (i : Indexes A) → IsStored rows i → (name : StateName) (slot : ℕ) (at : Place rows slot)
    → name_of at.value ≡ name
    → Some slot ≡ option_map slot_of_link (row_at name_cmp (key_of name_of) (links_of rows 0) name)
place-named rows i kept name slot at named =
    let first : at.list ≡ 0 = omega (arith, at.within, kept.one) in
    let split : links_of rows 0 ≡ at.front ++ link slot at.value ∷ at.back = sym (ap (links_of rows) first) ∙ at.split in
    let apart = subst (Distinct name_cmp (key_of name_of)) split (Distinct-rising name_cmp (key_of name_of) (links_of rows 0) kept.rising) in
    sym (ap (option_map slot_of_link) (ap (row_at name_cmp (key_of name_of) (links_of rows 0)) (sym named)
    ∙ (ap (λ (ls : List (Link Row)). row_at name_cmp (key_of name_of) ls (name_of at.value)) split
    ∙ stands-found names_total names_exact name_of at.front (link slot at.value) at.back apart)))

-- the slot at which a row of a packet's flow stands
pub found-stands-there : (links : List (Link Row)) (f : Flow) (direction : Dir) (at : Option (Link Row))
    → link_found links f direction ≡ at → IfSome at (λ l. Stands l.slot links l.value)
found-stands-there links f Inbound at is = found-all flow_cmp wire_flow links f at is
found-stands-there links f Outbound at is = found-all flow_cmp stack_flow links f at is

abbrev pub flow-found : (links : List (Link Row)) (f : Flow) (direction : Dir) (found : Option ℕ)
    → found ≡ option_map slot_of_link (link_found links f direction) → FoundAt links found
flow-found links f direction found is = record {
  which = link_found links f direction;
  is = is;
  stands = found-stands-there links f direction (link_found links f direction) refl;
}

pub name-none : (links : List (Link Row)) (name : StateName) → None ≡ option_map slot_of_link (row_at name_cmp (key_of name_of) links name)
    → row_at name_cmp (key_of name_of) links name ≡ None
name-none links name is = none (row_at name_cmp (key_of name_of) links name) is
  where
    none : (at : Option (Link Row)) → None ≡ option_map slot_of_link at → at ≡ None
    none None e = refl
    none (Some l) e = absurd (some_is_none l.slot (sym e))

-- the list has all of them
pub one-counted : (lists : List (List (Link Row))) → length lists ≡ 1 → count_of lists ≡ length (get_or lists 0 [])
one-counted [] e = absurd (omega arith)
one-counted (l ∷ []) e = omega arith
one-counted (l ∷ m ∷ lists) e = absurd (omega arith)

-- at a slot that no row has none stands
pub lacks-stands : (links : List (Link Row)) (slot : ℕ) → Lacks slot links → (r : Row) → Stands slot links r → ⊥
lacks-stands links slot lacks r stands = out stands.front (subst (λ (ls : List (Link Row)). Lacks slot ls) stands.split lacks)
  where
    out : (front : List (Link Row)) → Lacks slot (front ++ link slot r ∷ stands.back) → ⊥
    out [] others = others.0 refl
    out (l ∷ front) others = out front others.1

-- a slot of the list is below the limit, and the other rows do not have it
pub record AtSlot (limit slot : ℕ) (others : List (Link Row)) : Type 0 where
  pub below : slot < limit
  pub lacks : Lacks slot others

pub at_slot : (rows : Lists Row) → AreLists rows → (slot : ℕ) (at : Place rows slot) → AtSlot rows.limit slot (at.front ++ at.back)
at_slot rows are slot at = record {
  below = are.below slot at;
  lacks = lacks-others at.front (link slot at.value) at.back (subst (λ (ls : List (Link Row)). Apart ls) at.split (are.distinct at.list at.within));
}

module _ {A : Type 0} (rows new : Lists Row) (i j : Indexes A) (kept : IsStored rows i) where
  -- the list is another one
  module _ (links : List (Link Row)) (is : new ≡ with_links rows 0 links) where
    pub links-new : links_of new 0 ≡ links
    links-new = ap (λ (c : Lists Row). links_of c 0) is ∙ links_of-same rows 0 links (omega (arith, kept.one))

    pub limit-new : new.limit ≡ rows.limit
    limit-new = ap (λ (c : Lists Row). c.limit) is

    stored-new : IsRising name_cmp (key_of name_of) links → AreStated links → AreIndexes rows.limit links j → IsStored new j
    stored-new rising stated are = record {
      one = ap (λ (c : Lists Row). length c.lists) is ∙ (length-with_links rows 0 links ∙ kept.one);
      small = omega (arith, limit-new, kept.small);
      rising = subst (IsRising name_cmp (key_of name_of)) (sym links-new) rising;
      stated = subst AreStated (sym links-new) stated;
      indexes = subst (λ (ls : List (Link Row)). AreIndexes new.limit ls j) (sym links-new) (subst (λ n. AreIndexes n links j) (sym limit-new) are);
    }

  -- the slot of a row that came
  pub gained-at : (slot : ℕ) (r : Row) (behind : Option ℕ) (g : NameGap rows (name_of r) behind)
      → new ≡ with_links rows 0 (g.gap.front ++ link slot r ∷ g.gap.back) → AreLists new
      → AtSlot rows.limit slot (g.gap.front ++ g.gap.back)
  gained-at slot r behind g is are =
      let split = links-new (g.gap.front ++ link slot r ∷ g.gap.back) is in
      let one : length new.lists ≡ 1 = ap (λ (c : Lists Row). length c.lists) is
      ∙ (length-with_links rows 0 (g.gap.front ++ link slot r ∷ g.gap.back) ∙ kept.one) in
      let at = at_slot new are slot (record { list = 0; within = omega (arith, one); front = g.gap.front; value = r; back = g.gap.back; split = split }) in
      record { below = subst (λ n. slot < n) (limit-new (g.gap.front ++ link slot r ∷ g.gap.back) is) at.below; lacks = at.lacks }

  -- a row comes
  pub stored-gains : (slot : ℕ) (r : Row) (behind : Option ℕ) (g : NameGap rows (name_of r) behind)
      → new ≡ with_links rows 0 (g.gap.front ++ link slot r ∷ g.gap.back) → AreLists new
      → Gains i j slot r → HasNoKey (links_of rows 0) r → IsState r.state → IsStored new j
  stored-gains slot r behind g is are gains none state =
      let at = gained-at slot r behind g is are in
      stored-new (g.gap.front ++ link slot r ∷ g.gap.back) is
      (rising-with name_cmp (key_of name_of) g.gap.front (link slot r) g.gap.back
      (subst (IsRising name_cmp (key_of name_of)) g.gap.split kept.rising) g.above g.below)
      (stated-with g.gap.front (link slot r) g.gap.back (subst AreStated g.gap.split kept.stated) state)
      (gains rows.limit g.gap.front g.gap.back
      (subst (λ (ls : List (Link Row)). AreIndexes rows.limit ls i) g.gap.split kept.indexes) at.below at.lacks
      (subst (λ (ls : List (Link Row)). HasNoKey ls r) g.gap.split none))

  -- a row goes
  pub stored-loses : (slot : ℕ) (r : Row) (at : Place rows slot) → at.list ≡ 0 → r ≡ at.value
      → new ≡ with_links rows at.list (at.front ++ at.back) → Loses i j slot r → IsStored new j
  stored-loses slot r at here same is loses =
      let split = sym (ap (links_of rows) here) ∙ at.split in
      stored-new (at.front ++ at.back) (is ∙ ap (λ k. with_links rows k (at.front ++ at.back)) here)
      (rising-without name_cmp (key_of name_of) at.front (link slot at.value) at.back (subst (IsRising name_cmp (key_of name_of)) split kept.rising))
      (stated-without at.front (link slot at.value) at.back (subst AreStated split kept.stated))
      (loses rows.limit at.front at.back
      (subst (λ (ls : List (Link Row)). AreIndexes rows.limit ls i)
      (split ∙ ap (λ v. at.front ++ link slot v ∷ at.back) (sym same)) kept.indexes))

  -- a row is changed
  pub stored-changes : AreLists rows → (slot : ℕ) (was r : Row) (at : Place rows slot) → at.list ≡ 0 → was ≡ at.value
      → new ≡ with_links rows at.list (at.front ++ link slot r ∷ at.back) → Changes i j slot was r
      → name_of r ≡ name_of at.value → HasNoKey (at.front ++ at.back) r → IsState r.state → IsStored new j
  stored-changes are slot was r at here value is changes same none state =
      let its = at_slot rows are slot at in
      let split = sym (ap (links_of rows) here) ∙ at.split in
      stored-new (at.front ++ link slot r ∷ at.back) (is ∙ ap (λ k. with_links rows k (at.front ++ link slot r ∷ at.back)) here)
      (rising-changed name_cmp (key_of name_of) at.front (link slot at.value) (link slot r) at.back same
      (subst (IsRising name_cmp (key_of name_of)) split kept.rising))
      (stated-with at.front (link slot r) at.back (stated-without at.front (link slot at.value) at.back (subst AreStated split kept.stated)) state)
      (changes rows.limit at.front at.back
      (subst (λ (ls : List (Link Row)). AreIndexes rows.limit ls i)
      (split ∙ ap (λ v. at.front ++ link slot v ∷ at.back) (sym value)) kept.indexes) its.below its.lacks (same ∙ ap name_of (sym value)) none)

  -- a row of the same keys and rule comes in its place
  pub stored-renewed : AreLists rows → (slot : ℕ) (was r : Row) (at : Place rows slot) → at.list ≡ 0 → was ≡ at.value
      → new ≡ with_links rows at.list (at.front ++ link slot r ∷ at.back) → Refiles i j slot was r
      → SameKeys at.value r → HasNone name_cmp name_of (at.front ++ at.back) (name_of r) → IsState r.state → IsStored new j
  stored-renewed are slot was r at here value is refiles same none state =
      let its = at_slot rows are slot at in
      let split = sym (ap (links_of rows) here) ∙ at.split in
      stored-new (at.front ++ link slot r ∷ at.back) (is ∙ ap (λ k. with_links rows k (at.front ++ link slot r ∷ at.back)) here)
      (rising-changed name_cmp (key_of name_of) at.front (link slot at.value) (link slot r) at.back same.name
      (subst (IsRising name_cmp (key_of name_of)) split kept.rising))
      (stated-with at.front (link slot r) at.back (stated-without at.front (link slot at.value) at.back (subst AreStated split kept.stated)) state)
      (refiles rows.limit at.front at.back
      (subst (λ (ls : List (Link Row)). AreIndexes rows.limit ls i)
      (split ∙ ap (λ v. at.front ++ link slot v ∷ at.back) (sym value)) kept.indexes) its.below its.lacks
      (subst (λ (v : Row). SameKeys v r) (sym value) same) none)

-- what is seen of it
pub gains-row : {A : Type 0} (rows new : Lists Row) (i : Indexes A) → IsStored rows i
    → (slot : ℕ) (r : Row) (behind : Option ℕ) (g : NameGap rows (name_of r) behind)
    → new ≡ with_links rows 0 (g.gap.front ++ link slot r ∷ g.gap.back)
    → GainsRow (record { links = links_of rows 0; limit = rows.limit }) (record { links = links_of new 0; limit = new.limit }) r
gains-row rows new i kept slot r behind g is = record {
  slot = slot;
  front = g.gap.front;
  back = g.gap.back;
  was = g.gap.split;
  is = ap (λ (c : Lists Row). links_of c 0) is ∙ links_of-same rows 0 (g.gap.front ++ link slot r ∷ g.gap.back) (omega (arith, kept.one));
  limit = ap (λ (c : Lists Row). c.limit) is;
}

pub loses-row : {A : Type 0} (rows new : Lists Row) (i : Indexes A) → IsStored rows i → (slot : ℕ) (r : Row) (at : Place rows slot)
    → at.list ≡ 0 → r ≡ at.value → new ≡ with_links rows at.list (at.front ++ at.back)
    → LosesRow (record { links = links_of rows 0; limit = rows.limit }) (record { links = links_of new 0; limit = new.limit }) r
loses-row rows new i kept slot r at here same is =
    let one : new ≡ with_links rows 0 (at.front ++ at.back) = is ∙ ap (λ k. with_links rows k (at.front ++ at.back)) here in
    record {
      slot = slot;
      front = at.front;
      back = at.back;
      was = sym (ap (links_of rows) here) ∙ (at.split ∙ ap (λ v. at.front ++ link slot v ∷ at.back) (sym same));
      is = ap (λ (c : Lists Row). links_of c 0) one ∙ links_of-same rows 0 (at.front ++ at.back) (omega (arith, kept.one));
      limit = ap (λ (c : Lists Row). c.limit) is;
    }

pub changes-row : {A : Type 0} (rows new : Lists Row) (i : Indexes A) → IsStored rows i
    → (slot : ℕ) (before r : Row) (at : Place rows slot) → at.list ≡ 0 → before ≡ at.value
    → new ≡ with_links rows at.list (at.front ++ link slot r ∷ at.back)
    → ChangesRow (record { links = links_of rows 0; limit = rows.limit }) (record { links = links_of new 0; limit = new.limit }) before r
changes-row rows new i kept slot before r at here same is =
    let one : new ≡ with_links rows 0 (at.front ++ link slot r ∷ at.back) = is ∙ ap (λ k. with_links rows k (at.front ++ link slot r ∷ at.back)) here in
    record {
      slot = slot;
      front = at.front;
      back = at.back;
      was = sym (ap (links_of rows) here) ∙ (at.split ∙ ap (λ v. at.front ++ link slot v ∷ at.back) (sym same));
      is = ap (λ (c : Lists Row). links_of c 0) one ∙ links_of-same rows 0 (at.front ++ link slot r ∷ at.back) (omega (arith, kept.one));
      limit = ap (λ (c : Lists Row). c.limit) is;
    }

-- the indexes may be informed that it is changed
pub may-change : {A : Type 0} (rows : Lists Row) (i : Indexes A) → IsStored rows i → length (links_of rows 0) ≤ rows.limit → AreLists rows
    → (slot : ℕ) (was : Row) (at : Place rows slot) → at.list ≡ 0 → was ≡ at.value → MayChange i slot was
may-change rows i kept few are slot was at here same = record {
  limit = rows.limit;
  front = at.front;
  back = at.back;
  are = subst (λ (ls : List (Link Row)). AreIndexes rows.limit ls i) (sym (ap (links_of rows) here)
      ∙ (at.split ∙ ap (λ v. at.front ++ link slot v ∷ at.back) (sym same))) kept.indexes;
  below = are.below slot at;
  small = kept.small;
  few = subst (λ (ls : List (Link Row)). length ls ≤ rows.limit) (sym (ap (links_of rows) here)
      ∙ (at.split ∙ ap (λ v. at.front ++ link slot v ∷ at.back) (sym same))) few;
}

-- the indexes may be informed that it came
pub may-gain : {A : Type 0} (rows new : Lists Row) (i : Indexes A) (kept : IsStored rows i) (slot : ℕ) (r : Row) (behind : Option ℕ)
    (g : NameGap rows (name_of r) behind) → new ≡ with_links rows 0 (g.gap.front ++ link slot r ∷ g.gap.back) → AreLists new
    → length (links_of rows 0) < rows.limit → HasNoKey (links_of rows 0) r → MayGain i slot r
may-gain rows new i kept slot r behind g is are room none = record {
  limit = rows.limit;
  front = g.gap.front;
  back = g.gap.back;
  are = subst (λ (ls : List (Link Row)). AreIndexes rows.limit ls i) g.gap.split kept.indexes;
  room = subst (λ (ls : List (Link Row)). length ls < rows.limit) g.gap.split room;
  small = kept.small;
  below = (gained-at rows new i i kept slot r behind g is are).below;
  lacks = (gained-at rows new i i kept slot r behind g is are).lacks;
  new = subst (λ (ls : List (Link Row)). HasNoKey ls r) g.gap.split none;
}
