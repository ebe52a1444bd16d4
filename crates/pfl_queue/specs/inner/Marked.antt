-- Marks at slots: a list of each kind, in which the numbers rise, and the slot of each name and of each turn. No contract of a
-- public call cites this.
use Rattle.std.specs.Prelude.{◌≡◌, ◌≢◌, ℕ, ◌<◌, ◌≤◌, ◌^◌, List, [], ◌∷◌, ◌++◌, length, map, Option, Some}
use Rattle.std.specs.Option.{option_map}
use Rattle.std.specs.declared.cmp.Ordering.{Ordering}
use Rattle.std.specs.Ordering.{nat_cmp, on, then_cmp}
use Rattle.std.specs.Cmp.{IsTotalOrder, nat_cmp_total}
use Rattle.std.specs.FinMap.{IsAntisymmetric}
use Rattle.std.proofs.Common.{ap}
use Rattle.std.proofs.lemmas.Cmp.{on_total, then_total}
use Rattle.std.proofs.lemmas.Map.Lookups.{exact_pairs, exact_unsigned}
use Rattle.pfl_base.specs.declared.state_name.StateName.{StateName}
use Rattle.pfl_base.specs.Names.{name_cmp}
use Rattle.pfl_edits.specs.Maps as maps
use Rattle.pfl_edits.specs.Maps.{Map}
use Rattle.pfl_edits.specs.Rows.{map_of}
use Rattle.pfl_edits.proofs.ForCallers.{Distinct, row_at}
use Rattle.pfl_containers.specs.OrderEntries.{EntryList as TurnList}
use Rattle.pfl_containers.specs.Lists.{Link, Lists, links_of}
use Rattle.pfl_containers.specs.NameKeys.{by_name_hash}
use Rattle.pfl_containers.specs.SlotIndexes.{IsIndex, IsTagged, key_of}
use Rattle.pfl_containers.specs.Slots.{Tags, tag_in}
use Rattle.pfl_queue.specs.declared.Mark.{Mark}
use Rattle.pfl_queue.specs.declared.marks.Turn.{Turn}
use Rattle.pfl_queue.specs.inner.Rising.{IsRising}
use Rattle.pfl_queue.specs.Taking.{kind_place}

-- ---- what the indexes go by

-- the tag of a name: the upper half of its hash
unfoldable pub name_tag : StateName → ℕ
name_tag name = tag_in (by_name_hash (record { 0 = name }))

-- the turn of a mark: the place of its kind, and its number
abbrev pub turn_of : Mark → Turn
turn_of m = record { kind = kind_place m.kind; number = m.number }

-- by kind, and then by number
abbrev pub turn_cmp : Turn → Turn → Ordering
turn_cmp = then_cmp (on (λ t. t.kind) nat_cmp) (on (λ t. t.number) nat_cmp)

-- the order is total,
pub turn_total : IsTotalOrder turn_cmp
turn_total = then_total (on_total (λ t. t.kind) nat_cmp_total) (on_total (λ t. t.number) nat_cmp_total)

-- and turns that compare as equal are one
pub turn_exact : IsAntisymmetric turn_cmp
turn_exact a b e =
    ap (λ (p : ℕ × ℕ). record { kind = p.0; number = p.1 }) (exact_pairs nat_cmp nat_cmp exact_unsigned exact_unsigned (a.kind, a.number) (b.kind, b.number) e)

-- ---- marks at slots

-- the slot of a link,
abbrev pub slot_of_link : Link Mark → ℕ
slot_of_link l = l.slot

-- its mark,
abbrev pub mark_of_link : Link Mark → Mark
mark_of_link l = l.value

-- the name of a mark,
abbrev pub mark_name : Mark → StateName
mark_name m = m.name

-- and its queueing number
abbrev pub mark_number : Mark → ℕ
mark_number m = m.number

-- the links of all lists, one list after another
abbrev pub all_links : {V : Type 0} → List (List (Link V)) → List (Link V)
all_links [] = []
all_links (links ∷ lists) = links ++ all_links lists

-- the marks, kind after kind
abbrev pub listed : List (List (Link Mark)) → List Mark
listed lists = map mark_of_link (all_links lists)

-- the marks by their names
abbrev pub marks_of : List (List (Link Mark)) → Map name_cmp Mark
marks_of lists = map_of name_cmp mark_name (listed lists)

-- the slot of a name among links
abbrev pub slot_named : List (Link Mark) → StateName → Option ℕ
slot_named links name = option_map slot_of_link (row_at name_cmp (key_of mark_name) links name)

-- under the slot of each mark there is the tag of its name, and no two marks have one name
abbrev pub AreTagged : List (List (Link Mark)) → Map nat_cmp ℕ → Type 0
AreTagged lists tags = IsTagged name_cmp mark_name name_tag (all_links lists) tags

-- each of these marks is of the kind with this place
abbrev pub AreOfKind : ℕ → List (Link Mark) → Type 0
AreOfKind k [] = Unit {0}
AreOfKind k (x ∷ links) = (kind_place x.value.kind ≡ k) × AreOfKind k links

-- the marks stand in the list of their kind, in the order of their numbers, and the map has the slot of each turn
pub record AreOrdered (c : Lists Mark) (order : TurnList Turn ℕ) : Type 0 where
  pub five : length c.lists ≡ 5
  pub kinds : (k : ℕ) → k < 5 → AreOfKind k (links_of c k)
  pub rising : (k : ℕ) → k < 5 → IsRising mark_number (links_of c k)
  pub turns : IsIndex turn_cmp turn_of (all_links c.lists) (maps.from_sorted order.list)

-- besides, the index has the tag of each name at its slot, and there is as much room for names and turns as for marks
pub record AreMarked (c : Lists Mark) (names : Tags) (order : TurnList Turn ℕ) : Type 0 where
  pub ordered : AreOrdered c order
  pub tagged : AreTagged c.lists names.tags
  pub room : names.limit ≡ c.limit
  pub order_room : order.limit ≡ c.limit
  pub bound : c.limit ≤ 2 ^ 30

-- what is true of all marks at slots
pub record AreInTurn (c : Lists Mark) : Type 0 where
  pub five : length c.lists ≡ 5
  pub kinds : (k : ℕ) → k < 5 → AreOfKind k (links_of c k)
  pub rising : (k : ℕ) → k < 5 → IsRising mark_number (links_of c k)
  pub apart : Distinct name_cmp mark_name (listed c.lists)

-- no mark has this number
abbrev pub IsNew : Map name_cmp Mark → ℕ → Type 0
IsNew marks number = (n : StateName) (k : Mark) → maps.get marks n ≡ Some k → k.number ≢ number

-- marks of one number have one name
abbrev pub AreApart : Map name_cmp Mark → Type 0
AreApart marks = (n o : StateName) (m k : Mark) → maps.get marks n ≡ Some m → maps.get marks o ≡ Some k → m.number ≡ k.number → n ≡ o
