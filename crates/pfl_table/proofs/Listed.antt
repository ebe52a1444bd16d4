-- The entries of the order of names are those of the rows, and where the row of a name belongs among these.
use Rattle.std.specs.Prelude.{◌≡◌, ℕ, Bool, true, false, List, [], ◌∷◌, ◌++◌, length, map, find, Option, Some, None, refl}
use Rattle.std.specs.Option.{option_map}
use Rattle.std.specs.Ordering.{is_lt}
use Rattle.std.specs.FinMap.Entries.{is_sorted}
use Rattle.std.proofs.Common.{cond, T, ◌∙◌, ap, sym, subst, arith}
use Rattle.std.proofs.lemmas.List.{append-nil}
use Rattle.pfl_base.specs.declared.state_name.StateName.{StateName}
use Rattle.pfl_base.specs.Names.{name_cmp}
use Rattle.pfl_base.proofs.ForCallers.{names_total}
use Rattle.pfl_edits.specs.Maps as maps
use Rattle.pfl_edits.proofs.ForCallers.{entries-from_sorted, filed, entries-map_of, some_is_none}
use Rattle.pfl_edits.specs.Ordered.{IsBelow, IsRising}
use Rattle.pfl_edits.specs.Rows.{map_of}
use Rattle.pfl_containers.specs.declared.by_name.ByName.{ByName}
use Rattle.pfl_containers.specs.Lists.{Link, link, Lists, Place, links_of, last_slot}
use Rattle.pfl_containers.specs.NameKeys.{by_name_cmp}
use Rattle.pfl_containers.specs.Mapped.{at_value}
use Rattle.pfl_containers.specs.SlotIndexes.{IsIndex, HasNone, key_of}
use Rattle.pfl_containers.specs.inner.NameOrder.{by_name_total}
use Rattle.pfl_containers.proofs.ForCallers.{Stands, entries-map_values}
use Rattle.pfl_table.specs.declared.row.Row.{Row}
use Rattle.pfl_table.specs.inner.Ordering.{by_name}
use Rattle.pfl_table.specs.inner.Filed.{FoundAt, NameGap, name_of, slot_of_link}
use Rattle.pfl_table.proofs.Ranked.{Parts, parts}
use Rattle.pfl_table.proofs.Scanned.{find-map}

abbrev pub entry_of : Link Row → ByName × ℕ
entry_of l = (by_name l.value, l.slot)

below-by_name : (q : StateName) (links : List (Link Row)) → IsBelow name_cmp (key_of name_of) q links
    → IsBelow by_name_cmp (key_of by_name) (record { 0 = q }) links
below-by_name q [] h = tt
below-by_name q (l ∷ links) h = (h.0, below-by_name q links h.1)

rising-by_name : (links : List (Link Row)) → IsRising name_cmp (key_of name_of) links → IsRising by_name_cmp (key_of by_name) links
rising-by_name [] r = tt
rising-by_name (l ∷ links) r = (below-by_name (name_of l.value) links r.0, rising-by_name links r.1)

entries-of : (links : List (Link Row)) → map (at_value slot_of_link) (map (filed (key_of by_name)) links) ≡ map entry_of links
entries-of [] = refl
entries-of (l ∷ links) = ap (λ (es : List (ByName × ℕ)). entry_of l ∷ es) (entries-of links)

listed : (list : List (ByName × ℕ)) (links : List (Link Row)) → T (is_sorted by_name_cmp list)
    → IsIndex by_name_cmp by_name links (maps.from_sorted list) → IsRising name_cmp (key_of name_of) links → list ≡ map entry_of links
listed list links sorted i r =
    sym (entries-from_sorted by_name_cmp list sorted)
    ∙ (ap maps.entries i.is
    ∙ (entries-map_values by_name_cmp slot_of_link (map_of by_name_cmp (key_of by_name) links)
    ∙ (ap (map (at_value slot_of_link)) (entries-map_of by_name_total (key_of by_name) links (rising-by_name links r)) ∙ entries-of links)))

-- the first entry above a name is that of the first row above it
pub find-listed : (list : List (ByName × ℕ)) (links : List (Link Row)) → T (is_sorted by_name_cmp list)
    → IsIndex by_name_cmp by_name links (maps.from_sorted list) → IsRising name_cmp (key_of name_of) links → (name : StateName)
    → find (λ e. is_lt (by_name_cmp (record { 0 = name }) e.0)) list ≡ option_map entry_of (find (λ l. is_lt (name_cmp name (name_of l.value))) links)
find-listed list links sorted i r name =
    let test = λ (e : ByName × ℕ). is_lt (by_name_cmp (record { 0 = name }) e.0) in
    ap (find test) (listed list links sorted i r) ∙ find-map entry_of test links

-- the row of an entry that was found
pub record SomeRow (at : Option (Link Row)) (e : ByName × ℕ) : Type 0 where
  pub row : Link Row
  pub is : at ≡ Some row
  pub slot : row.slot ≡ e.1

pub some_row : (at : Option (Link Row)) (found : Option (ByName × ℕ)) (e : ByName × ℕ) → found ≡ option_map entry_of at → found ≡ Some e → SomeRow at e
some_row None found e is some = absurd (some_is_none e (sym some ∙ is))
some_row (Some l) found e is some = let same : entry_of l ≡ e = inner (entry_of l) e (sym is ∙ some)
    in record { row = l; is = refl; slot = ap (λ (d : ByName × ℕ). d.1) same }
  where
    inner : (d e : ByName × ℕ) → Some d ≡ Some e → d ≡ e
    inner d e s = cc

pub no_row : (at : Option (Link Row)) (found : Option (ByName × ℕ)) → found ≡ option_map entry_of at → found ≡ None → at ≡ None
no_row None found is none = refl
no_row (Some l) found is none = absurd (some_is_none (entry_of l) (sym is ∙ none))

-- a row that a search finds stands at its slot
pub find-stands : (test : Link Row → Bool) (links : List (Link Row)) (l : Link Row) → find test links ≡ Some l → Stands l.slot links l.value
find-stands test [] l is = absurd (some_is_none l (sym is))
find-stands test (x ∷ links) l is = elim (test x) as (λ b. cond b (Some x) (find test links) ≡ Some l → Stands l.slot (x ∷ links) l.value) [
  | true ↦ λ e. let same : x ≡ l = cc in record { front = []; back = links; split = ap (λ (y : Link Row). y ∷ links) same }
  | false ↦ λ e. let s = find-stands test links l e in record { front = x ∷ s.front; back = s.back; split = ap (λ (ls : List (Link Row)). x ∷ ls) s.split }
] is

-- the slot of the first row above a name, as an index found it
abbrev pub above-found : (links : List (Link Row)) (name : StateName) (l : Link Row) (slot : ℕ)
    → find (λ k. is_lt (name_cmp name (name_of k.value))) links ≡ Some l → l.slot ≡ slot → FoundAt links (Some slot)
above-found links name l slot is same =
    record { which = Some l; is = ap Some (sym same); stands = find-stands (λ k. is_lt (name_cmp name (name_of k.value))) links l is }

module _ (rows : Lists Row) (name : StateName) (one : length rows.lists ≡ 1)
    (rising : IsRising name_cmp (key_of name_of) (links_of rows 0)) (none : HasNone name_cmp name_of (links_of rows 0) name) where
  split-at : (next : Option (Link Row)) → find (λ l. is_lt (name_cmp name (name_of l.value))) (links_of rows 0) ≡ next
      → Parts names_total (key_of name_of) name (links_of rows 0) next
  split-at next is = subst (Parts names_total (key_of name_of) name (links_of rows 0)) is
      (parts names_total (key_of name_of) name (links_of rows 0) rising none)

  -- the slot of the first row above the name, and the gap before it
  pub record Next (slot : ℕ) : Type 0 where
    pub at : Place rows slot
    pub gap : (behind : Option ℕ) → behind ≡ last_slot at.front → NameGap rows name behind

  pub next-at : (l : Link Row) (slot : ℕ) → find (λ k. is_lt (name_cmp name (name_of k.value))) (links_of rows 0) ≡ Some l → l.slot ≡ slot → Next slot
  next-at l slot is same =
      let p = split-at (Some l) is in
      let first : (rest : List (Link Row)) × (p.back ≡ l ∷ rest) = p.first in
      record {
        at = record {
          list = 0;
          within = omega (arith, one);
          front = p.front;
          value = l.value;
          back = first.0;
          split = p.split ∙ (ap (λ (b : List (Link Row)). p.front ++ b) first.1 ∙ ap (λ n. p.front ++ link n l.value ∷ first.0) same);
        };
        gap = λ behind ends. record {
          gap = record { front = p.front; back = p.back; split = p.split; ends = sym ends };
          above = p.above;
          below = p.below;
        };
      }

  -- no row is above it
  pub last-gap : find (λ l. is_lt (name_cmp name (name_of l.value))) (links_of rows 0) ≡ None → (behind : Option ℕ)
      → behind ≡ last_slot (links_of rows 0) → NameGap rows name behind
  last-gap is behind ends =
      let p = split-at None is in
      let none_behind : p.back ≡ [] = p.first in
      let whole : links_of rows 0 ≡ p.front = p.split ∙ (ap (λ (b : List (Link Row)). p.front ++ b) none_behind ∙ append-nil p.front) in
      record {
        gap = record { front = p.front; back = p.back; split = p.split; ends = sym (ends ∙ ap last_slot whole) };
        above = p.above;
        below = p.below;
      }
