-- The order in which rows expire, as they were filed: each at a time that is at most its last use.
use Rattle.std.specs.Prelude.{◌≡◌, ℕ, ◌+◌, ◌-◌, ◌<◌, ◌≤◌, List, [], ◌∷◌, ◌++◌, length, get_or, replicate, set, Option, IfSome}
use Rattle.std.specs.List.{slice_get}
use Rattle.std.specs.Option.{option_map}
use Rattle.pfl_base.specs.Lists.{in_order}
use Rattle.pfl_base.specs.Names.{name_cmp}
use Rattle.pfl_edits.specs.Maps as maps
use Rattle.pfl_containers.specs.Lists.{Link, link, Lists, Lacks, Place}
use Rattle.pfl_containers.specs.OrderEntries.{EntryList}
use Rattle.pfl_containers.specs.SlotIndexes.{IsIndexOf, HasNone}
use Rattle.pfl_rules.specs.declared.adaptive.Adaptive.{Adaptive}
use Rattle.pfl_table.specs.declared.row.Row.{Row}
use Rattle.pfl_table.specs.declared.keys.Expiry.{Expiry}
use Rattle.pfl_table.specs.inner.Ordering.{due_before, expiry_at, expiry_of, expiry_cmp}

-- the slots of rows by when these expire, for how many there is room, and when the row at each slot was filed
pub record Dues : Type 0 where
  pub list : List (Expiry × ℕ)
  pub limit : ℕ
  pub filed : List ℕ

-- the times when another one is noted at a slot: there are as many as it needs, none of which was noted is 0
unfoldable pub timed : List ℕ → ℕ → ℕ → List ℕ
timed times slot time = set (times ++ replicate (slot + 1 - length times) 0) slot time

-- its entries
abbrev pub entries_of : Dues → EntryList Expiry ℕ
entries_of d = record { list = d.list; limit = d.limit }

-- what says when a row would expire if it had not been used since it was filed
abbrev pub expiry_filed : List ℕ → Link Row → Expiry
expiry_filed times l = expiry_at l.value (get_or times l.slot 0)

-- no row was filed after its last use
abbrev pub NoneLater : List ℕ → List (Link Row) → Type 0
NoneLater times [] = Unit {0}
NoneLater times (l ∷ links) = (get_or times l.slot 0 ≤ l.value.state.last) × NoneLater times links

-- they are for these rows
pub record AreDues (limit : ℕ) (links : List (Link Row)) (d : Dues) : Type 0 where
  pub order : IsIndexOf expiry_cmp (expiry_filed d.filed) (λ l. l.slot) links (maps.from_sorted d.list)
  pub used : NoneLater d.filed links
  pub order_limit : d.limit ≡ limit

-- ---- a row comes, goes or is changed

-- it is filed at its last use
pub record Files (old new : Dues) (slot : ℕ) (r : Row) : Type 0 where
  pub map : maps.from_sorted {R = expiry_cmp} new.list ≡ maps.insert (maps.from_sorted old.list) (expiry_of r) slot
  pub filed : new.filed ≡ timed old.filed slot r.state.last
  pub limit : new.limit ≡ old.limit

-- it is no longer filed
pub record Unfiles (old new : Dues) (slot : ℕ) (r : Row) : Type 0 where
  pub map : maps.from_sorted {R = expiry_cmp} new.list ≡ maps.remove (maps.from_sorted old.list) (expiry_filed old.filed (link slot r))
  pub filed : new.filed ≡ old.filed
  pub limit : new.limit ≡ old.limit

-- they are for rows of which one may be changed
pub record MayMove (d : Dues) (slot : ℕ) (was : Row) : Type 0 where
  pub limit : ℕ
  pub front : List (Link Row)
  pub back : List (Link Row)
  pub are : AreDues limit (front ++ link slot was ∷ back) d
  pub below : slot < limit

-- they are for these rows with another one of the same name at a slot
abbrev pub Moves : Dues → Dues → ℕ → Row → Row → Type 0
Moves old new slot was r = (limit : ℕ) (front back : List (Link Row)) → AreDues limit (front ++ link slot was ∷ back) old → slot < limit
    → Lacks slot (front ++ back)
    → r.state.name ≡ was.state.name → HasNone name_cmp (λ q. q.state.name) (front ++ back) r.state.name → AreDues limit (front ++ link slot r ∷ back) new

-- ---- rows that were used since they were filed

-- the row at a slot was used
pub record IsStale (rows : Lists Row) (d : Dues) (slot : ℕ) : Type 0 where
  pub at : Place rows slot
  pub here : at.list ≡ 0
  pub used : get_or d.filed slot 0 < at.value.state.last

-- the slot of the row that is due first of these entries
abbrev pub first_slot : Adaptive → ℕ → List (Expiry × ℕ) → Option ℕ
first_slot a states es = option_map (λ e. e.1) (slice_get (in_order (λ e f. due_before a states e.0 f.0) es) 0)

-- this is that one
abbrev pub IsFirst : Adaptive → ℕ → List (Expiry × ℕ) → Option ℕ → Type 0
IsFirst a states es slot = slot ≡ first_slot a states es

-- the slot of the row that is due first as the rows were filed
abbrev pub due_first : Adaptive → ℕ → Dues → Option ℕ
due_first a states d = first_slot a states d.list

-- that row was not used
abbrev pub IsSettled : Adaptive → ℕ → Lists Row → Dues → Type 0
IsSettled a states rows d = IfSome (due_first a states d) (λ slot. IsStale rows d slot → ⊥)
