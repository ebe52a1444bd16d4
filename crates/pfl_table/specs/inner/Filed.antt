-- Rows at slots, in the order of their names, and what the indexes have of them.
use Rattle.std.specs.Prelude.{◌≡◌, ℕ, ◌<◌, ◌≤◌, ◌^◌, List, [], ◌∷◌, ◌++◌, length, Option, IfSome}
use Rattle.std.specs.Option.{option_map}
use Rattle.pfl_base.specs.declared.direction.Dir.{Dir}
use Rattle.pfl_base.specs.declared.direction.Dir.TheVariants.{Inbound, Outbound}
use Rattle.pfl_base.specs.declared.state_name.StateName.{StateName}
use Rattle.pfl_base.specs.Names.{name_cmp}
use Rattle.pfl_edits.specs.Maps as maps
use Rattle.pfl_edits.specs.Maps.{Map}
use Rattle.pfl_edits.specs.Ordered.{IsRising, IsBelow}
use Rattle.pfl_edits.specs.inner.Ordered.{IsAbove}
use Rattle.pfl_edits.specs.Rows.{map_of}
use Rattle.pfl_edits.proofs.ForCallers.{Distinct, row_at}
use Rattle.pfl_containers.specs.Lists.{Link, link, Lists, Gap, Lacks, links_of}
use Rattle.pfl_containers.specs.NameKeys.{by_name_cmp}
use Rattle.pfl_containers.specs.Mapped.{map_values}
use Rattle.pfl_containers.specs.SlotIndexes.{key_of, IsIndex, IsTagged, HasNone}
use Rattle.pfl_containers.proofs.ForCallers.{Stands}
use Rattle.pfl_track.specs.States.{IsState}
use Rattle.pfl_table.specs.declared.row.Row.{Row}
use Rattle.pfl_table.specs.declared.indexes.Indexes.{Indexes}
use Rattle.pfl_table.specs.inner.Ordering.{Flow, by_name, name_tag, flow_of, flow_cmp, flow_tag}
use Rattle.pfl_table.specs.inner.Dues.{AreDues}
use Rattle.pfl_table.specs.inner.Counts.{AreCounts}
use Rattle.pfl_table.specs.Tables.{Table}

-- rows at slots, in the order of their names, and for how many there is room
pub record Filing : Type 0 where
  pub links : List (Link Row)
  pub limit : ℕ

-- ---- what the indexes go by

abbrev pub wire_flow : Row → Flow
wire_flow r = flow_of r.state.wire

abbrev pub stack_flow : Row → Flow
stack_flow r = flow_of r.state.stack

-- what a link names
abbrev pub slot_of_link : Link Row → ℕ
slot_of_link l = l.slot

abbrev pub row_of_link : Link Row → Row
row_of_link l = l.value

-- the row of a name
abbrev pub name_of : Row → StateName
name_of r = r.state.name

-- the row of a packet's flow: on the way in by the wire key, on the way out by the stack key
abbrev pub link_found : List (Link Row) → Flow → Dir → Option (Link Row)
link_found links f Inbound = row_at flow_cmp (key_of wire_flow) links f
link_found links f Outbound = row_at flow_cmp (key_of stack_flow) links f

-- the rows, by their names
abbrev pub rows_of : List (Link Row) → Map name_cmp Row
rows_of links = map_values (λ l. l.value) (map_of name_cmp (key_of name_of) links)

-- the table that they stand for
abbrev pub table_of : Filing → Table
table_of f = record { limit = f.limit; rows = rows_of f.links }

-- ---- the indexes of rows

pub record AreIndexes {A : Type 0} (limit : ℕ) (links : List (Link Row)) (i : Indexes A) : Type 0 where
  pub names : IsTagged by_name_cmp by_name name_tag links i.names.tags
  pub order : IsIndex by_name_cmp by_name links (maps.from_sorted i.order.list)
  pub wires : IsTagged flow_cmp wire_flow flow_tag links i.wires.tags
  pub stacks : IsTagged flow_cmp stack_flow flow_tag links i.stacks.tags
  pub expiries : AreDues limit links i.expiries
  pub rules : AreCounts links i.rules
  pub names_limit : i.names.limit ≡ limit
  pub order_limit : i.order.limit ≡ limit
  pub wires_limit : i.wires.limit ≡ limit
  pub stacks_limit : i.stacks.limit ≡ limit

-- no row has a key of this one
pub record HasNoKey (links : List (Link Row)) (r : Row) : Type 0 where
  pub name : HasNone by_name_cmp by_name links (by_name r)
  pub wire : HasNone flow_cmp wire_flow links (wire_flow r)
  pub stack : HasNone flow_cmp stack_flow links (stack_flow r)

-- no row but the one of its name has a key of this one
abbrev pub OthersHaveNoKey : List (Link Row) → Row → Type 0
OthersHaveNoKey links r = (slot : ℕ) (was : Row) (front back : List (Link Row)) → links ≡ front ++ link slot was ∷ back
    → name_of r ≡ name_of was → HasNoKey (front ++ back) r

-- the indexes are for rows to which one more may come, at the slot
pub record MayGain {A : Type 0} (i : Indexes A) (slot : ℕ) (r : Row) : Type 0 where
  pub limit : ℕ
  pub front : List (Link Row)
  pub back : List (Link Row)
  pub are : AreIndexes limit (front ++ back) i
  pub room : length (front ++ back) < limit
  pub small : limit ≤ 2 ^ 30
  pub below : slot < limit
  pub lacks : Lacks slot (front ++ back)
  pub new : HasNoKey (front ++ back) r

-- they are for these rows with one more, at the slot
abbrev pub Gains : {A : Type 0} → Indexes A → Indexes A → ℕ → Row → Type 0
Gains old new slot r = (limit : ℕ) (front back : List (Link Row)) → AreIndexes limit (front ++ back) old → slot < limit
    → Lacks slot (front ++ back) → HasNoKey (front ++ back) r
    → AreIndexes limit (front ++ link slot r ∷ back) new

-- they are for these rows without one, which stood at the slot
abbrev pub Loses : {A : Type 0} → Indexes A → Indexes A → ℕ → Row → Type 0
Loses old new slot r = (limit : ℕ) (front back : List (Link Row)) → AreIndexes limit (front ++ link slot r ∷ back) old → AreIndexes limit (front ++ back) new

-- the indexes are for rows of which one may be changed
pub record MayChange {A : Type 0} (i : Indexes A) (slot : ℕ) (was : Row) : Type 0 where
  pub limit : ℕ
  pub front : List (Link Row)
  pub back : List (Link Row)
  pub are : AreIndexes limit (front ++ link slot was ∷ back) i
  pub few : length (front ++ link slot was ∷ back) ≤ limit
  pub small : limit ≤ 2 ^ 30
  pub below : slot < limit

-- they are for these rows with another one of the same name at a slot
abbrev pub Changes : {A : Type 0} → Indexes A → Indexes A → ℕ → Row → Row → Type 0
Changes old new slot was r = (limit : ℕ) (front back : List (Link Row)) → AreIndexes limit (front ++ link slot was ∷ back) old
    → slot < limit → Lacks slot (front ++ back)
    → name_of r ≡ name_of was → HasNoKey (front ++ back) r
    → AreIndexes limit (front ++ link slot r ∷ back) new

-- the other row has the same name, keys and rule
pub record SameKeys (was r : Row) : Type 0 where
  pub name : r.state.name ≡ was.state.name
  pub wire : r.state.wire ≡ was.state.wire
  pub stack : r.state.stack ≡ was.state.stack
  pub rule : r.state.rule ≡ was.state.rule

-- they are for these rows with another one of the same keys and rule at a slot
abbrev pub Refiles : {A : Type 0} → Indexes A → Indexes A → ℕ → Row → Row → Type 0
Refiles old new slot was r = (limit : ℕ) (front back : List (Link Row)) → AreIndexes limit (front ++ link slot was ∷ back) old
    → slot < limit → Lacks slot (front ++ back) → SameKeys was r
    → HasNone name_cmp name_of (front ++ back) (name_of r) → AreIndexes limit (front ++ link slot r ∷ back) new

-- ---- what is kept

-- each row has a state
abbrev pub AreStated : List (Link Row) → Type 0
AreStated [] = Unit {0}
AreStated (l ∷ links) = IsState l.value.state × AreStated links

-- the rows stand in one list, in the order of their names, and the indexes are theirs
pub record IsStored {A : Type 0} (rows : Lists Row) (i : Indexes A) : Type 0 where
  pub one : length rows.lists ≡ 1
  pub small : rows.limit ≤ 2 ^ 30
  pub rising : IsRising name_cmp (key_of name_of) (links_of rows 0)
  pub stated : AreStated (links_of rows 0)
  pub indexes : AreIndexes rows.limit (links_of rows 0) i

-- what is true of rows at slots
pub record AreFiled (f : Filing) : Type 0 where
  pub rising : IsRising name_cmp (key_of name_of) f.links
  pub few : length f.links ≤ f.limit
  pub wires : Distinct flow_cmp (key_of wire_flow) f.links
  pub stacks : Distinct flow_cmp (key_of stack_flow) f.links
  pub stated : AreStated f.links

-- what an index found is the slot of a row that stands there, or none
pub record FoundAt (links : List (Link Row)) (found : Option ℕ) : Type 0 where
  pub which : Option (Link Row)
  pub is : found ≡ option_map slot_of_link which
  pub stands : IfSome which (λ l. Stands l.slot links l.value)

-- the gap of a name: after the rows below it, and before those above
pub record NameGap (rows : Lists Row) (name : StateName) (behind : Option ℕ) : Type 0 where
  pub gap : Gap rows 0 behind
  pub above : IsAbove name_cmp (key_of name_of) name gap.front
  pub below : IsBelow name_cmp (key_of name_of) name gap.back

-- ---- a row comes, goes or is changed

pub record GainsRow (old new : Filing) (r : Row) : Type 0 where
  pub slot : ℕ
  pub front : List (Link Row)
  pub back : List (Link Row)
  pub was : old.links ≡ front ++ back
  pub is : new.links ≡ front ++ link slot r ∷ back
  pub limit : new.limit ≡ old.limit

pub record LosesRow (old new : Filing) (r : Row) : Type 0 where
  pub slot : ℕ
  pub front : List (Link Row)
  pub back : List (Link Row)
  pub was : old.links ≡ front ++ link slot r ∷ back
  pub is : new.links ≡ front ++ back
  pub limit : new.limit ≡ old.limit

pub record ChangesRow (old new : Filing) (before r : Row) : Type 0 where
  pub slot : ℕ
  pub front : List (Link Row)
  pub back : List (Link Row)
  pub was : old.links ≡ front ++ link slot before ∷ back
  pub is : new.links ≡ front ++ link slot r ∷ back
  pub limit : new.limit ≡ old.limit
