-- The entries of the order of turns are those of the marks, and where a turn belongs among these.
use Rattle.std.specs.Prelude.{◌≡◌, ◌≢◌, ℕ, zero, suc, ◌+◌, ◌<◌, Bool, true, false, List, [], ◌∷◌, ◌++◌, length, map, find, get_or, Option, Some, None, refl}
use Rattle.std.specs.List.{AllByRecursion}
use Rattle.std.specs.Option.{option_map}
use Rattle.std.specs.declared.cmp.Ordering.TheVariants.{Less, Equal, Greater}
use Rattle.std.specs.Ordering.{is_lt, nat_cmp, ordering_then}
use Rattle.std.specs.Cmp.{nat_cmp_is}
use Rattle.std.specs.FinMap.Entries.{is_sorted}
use Rattle.std.proofs.Common.{cond, inl, inr, T, ◌∙◌, ap, sym, subst, arith}
use Rattle.std.proofs.lemmas.Bool.{cases_lt}
use Rattle.std.proofs.lemmas.List.{append-nil}
use Rattle.pfl_edits.specs.Maps as maps
use Rattle.pfl_edits.proofs.ForCallers.{entries-from_sorted, filed, entries-map_of, some_is_none}
use Rattle.pfl_edits.specs.Ordered.{IsBelow as IsLower, IsRising as Rise}
use Rattle.pfl_edits.specs.Rows.{map_of}
use Rattle.pfl_containers.specs.OrderEntries.{EntryList as TurnList}
use Rattle.pfl_containers.specs.Lists.{Link, link, Lists, Place, links_of, last_slot}
use Rattle.pfl_containers.specs.Mapped.{at_value}
use Rattle.pfl_containers.specs.SlotIndexes.{key_of}
use Rattle.pfl_containers.proofs.ForCallers.{entries-map_values}
use Rattle.pfl_queue.specs.declared.Mark.{Mark}
use Rattle.pfl_queue.specs.declared.marks.Turn.{Turn}
use Rattle.pfl_queue.specs.inner.Marked.{mark_number, slot_of_link, turn_of, turn_cmp, turn_total, all_links, AreOfKind, AreOrdered}
use Rattle.pfl_queue.specs.inner.Rising.{IsAbove, IsBelow, IsRising, HasNone, OrderedGap}
use Rattle.pfl_queue.specs.Taking.{kind_place}
use Rattle.pfl_queue.proofs.Gaps.{above_lower}

-- ---- turns compared

kind-less : (t u : Turn) → t.kind < u.kind → turn_cmp t u ≡ Less
kind-less t u low = ap (λ r. ordering_then r (nat_cmp t.number u.number)) (sym (nat_cmp_is t.kind u.kind Less low))

kind-greater : (t u : Turn) → u.kind < t.kind → turn_cmp t u ≡ Greater
kind-greater t u high = ap (λ r. ordering_then r (nat_cmp t.number u.number)) (sym (nat_cmp_is t.kind u.kind Greater high))

number-less : (t u : Turn) → t.kind ≡ u.kind → t.number < u.number → turn_cmp t u ≡ Less
number-less t u same low = ap (λ r. ordering_then r (nat_cmp t.number u.number)) (sym (nat_cmp_is t.kind u.kind Equal same))
    ∙ sym (nat_cmp_is t.number u.number Less low)

number-greater : (t u : Turn) → t.kind ≡ u.kind → u.number < t.number → turn_cmp t u ≡ Greater
number-greater t u same high = ap (λ r. ordering_then r (nat_cmp t.number u.number)) (sym (nat_cmp_is t.kind u.kind Equal same))
    ∙ sym (nat_cmp_is t.number u.number Greater high)

-- ---- the turns rise from link to link, through all lists

abbrev its_turn : Link Mark → Turn
its_turn = key_of turn_of

-- each link is of a later kind
abbrev AreLater : ℕ → List (Link Mark) → Type 0
AreLater k links = AllByRecursion (λ l. k < kind_place l.value.kind) links

lower-later : (x : Link Mark) (rest : List (Link Mark)) → AreLater (kind_place x.value.kind) rest → IsLower turn_cmp its_turn (its_turn x) rest
lower-later x [] late = tt
lower-later x (y ∷ rest) late = (kind-less (its_turn x) (its_turn y) late.0, lower-later x rest late.1)

lower-first : (k : ℕ) (x : Link Mark) (links rest : List (Link Mark)) → kind_place x.value.kind ≡ k → AreOfKind k links
    → IsAbove mark_number x.value.number links → AreLater k rest
    → IsLower turn_cmp its_turn (its_turn x) (links ++ rest)
lower-first k x [] rest its kinds above late = lower-later x rest (subst (λ n. AreLater n rest) (sym its) late)
lower-first k x (y ∷ links) rest its kinds above late =
    (number-less (its_turn x) (its_turn y) (its ∙ sym kinds.0) above.0, lower-first k x links rest its kinds.1 above.1 late)

rise-front : (k : ℕ) (links rest : List (Link Mark)) → AreOfKind k links → IsRising mark_number links → AreLater k rest
    → Rise turn_cmp its_turn rest → Rise turn_cmp its_turn (links ++ rest)
rise-front k [] rest kinds rising late r = r
rise-front k (x ∷ links) rest kinds rising late r = (lower-first k x links rest kinds.0 kinds.1 rising.0 late, rise-front k links rest kinds.1 rising.1 late r)

-- lists of the kinds from k on
record AreFrom (k : ℕ) (lists : List (List (Link Mark))) : Type 0 where
  kinds : (j : ℕ) → j < length lists → AreOfKind (k + j) (get_or lists j [])
  rising : (j : ℕ) → j < length lists → IsRising mark_number (get_or lists j [])

first_kind : (k : ℕ) (links : List (Link Mark)) (lists : List (List (Link Mark))) → AreFrom k (links ∷ lists) → AreOfKind k links
first_kind k links lists are = let none_on : k + 0 ≡ k = omega arith in subst (λ n. AreOfKind n links) none_on (are.kinds 0 (omega arith))

rest_from : (k : ℕ) (links : List (Link Mark)) (lists : List (List (Link Mark))) → AreFrom k (links ∷ lists) → AreFrom (suc k) lists
rest_from k links lists are = record {
  kinds = λ j h. let one_on : k + suc j ≡ suc k + j = omega arith in subst (λ n. AreOfKind n (get_or lists j [])) one_on (are.kinds (suc j) (omega (arith, h)));
  rising = λ j h. are.rising (suc j) (omega (arith, h));
}

of_kind : (j k : ℕ) (links rest : List (Link Mark)) → j < k → AreOfKind k links → AreLater j rest → AreLater j (links ++ rest)
of_kind j k [] rest less kinds late = late
of_kind j k (x ∷ links) rest less kinds late = (omega (arith, less, kinds.0), of_kind j k links rest less kinds.1 late)

all_later : (j k : ℕ) (lists : List (List (Link Mark))) → j < k → AreFrom k lists → AreLater j (all_links lists)
all_later j k [] less are = tt
all_later j k (links ∷ lists) less are =
    of_kind j k links (all_links lists) less (first_kind k links lists are)
    (all_later j (suc k) lists (omega (arith, less)) (rest_from k links lists are))

all_rise : (k : ℕ) (lists : List (List (Link Mark))) → AreFrom k lists → Rise turn_cmp its_turn (all_links lists)
all_rise k [] are = tt
all_rise k (links ∷ lists) are =
    let rest = rest_from k links lists are in
    let none_more : k < suc k = omega arith in
    rise-front k links (all_links lists) (first_kind k links lists are) (are.rising 0 (omega arith))
    (all_later k (suc k) lists none_more rest) (all_rise (suc k) lists rest)

-- ---- the entries of the order

abbrev entry_of : Link Mark → Turn × ℕ
entry_of l = (its_turn l, l.slot)

entries-of : (links : List (Link Mark)) → map (at_value slot_of_link) (map (filed its_turn) links) ≡ map entry_of links
entries-of [] = refl
entries-of (l ∷ links) = ap (λ (es : List (Turn × ℕ)). entry_of l ∷ es) (entries-of links)

find-entry : (p : Turn × ℕ → Bool) (links : List (Link Mark)) → find p (map entry_of links) ≡ option_map entry_of (find (λ l. p (entry_of l)) links)
find-entry p [] = refl
find-entry p (x ∷ links) = elim (p (entry_of x)) as
    (λ b. cond b (Some (entry_of x)) (find p (map entry_of links)) ≡ option_map entry_of (cond b (Some x) (find (λ l. p (entry_of l)) links))) [
      | true ↦ refl
      | false ↦ find-entry p links
    ]

-- the turn is above this one
abbrev pub is_above : Turn → Link Mark → Bool
is_above t l = is_lt (turn_cmp t (its_turn l))

module _ (c : Lists Mark) (order : TurnList Turn ℕ) (are : AreOrdered c order) where
  from_first : AreFrom 0 c.lists
  from_first = record {
    kinds = λ j h. let zero_on : j ≡ 0 + j = omega arith in subst (λ n. AreOfKind n (get_or c.lists j [])) zero_on (are.kinds j (omega (arith, h, are.five)));
    rising = λ j h. are.rising j (omega (arith, h, are.five));
  }

  -- the first entry above a turn is that of the first mark above it
  find-listed : T (is_sorted turn_cmp order.list) → (t : Turn)
      → find (λ e. is_lt (turn_cmp t e.0)) order.list ≡ option_map entry_of (find (is_above t) (all_links c.lists))
  find-listed sorted t =
      let links = all_links c.lists in
      let listed : order.list ≡ map entry_of links =
      sym (entries-from_sorted turn_cmp order.list sorted)
      ∙ (ap maps.entries are.turns.is
      ∙ (entries-map_values turn_cmp slot_of_link (map_of turn_cmp its_turn links)
      ∙ (ap (map (at_value slot_of_link)) (entries-map_of turn_total its_turn links (all_rise 0 c.lists from_first)) ∙ entries-of links))) in
      ap (find (λ (e : Turn × ℕ). is_lt (turn_cmp t e.0))) listed ∙ find-entry (λ e. is_lt (turn_cmp t e.0)) links

-- ---- what is found of a turn's own list

module _ (t : Turn) where
  skip : (l : Link Mark) (links : List (Link Mark)) → turn_cmp t (its_turn l) ≡ Greater → find (is_above t) (l ∷ links) ≡ find (is_above t) links
  skip l links e = ap (λ r. cond (is_lt r) (Some l) (find (is_above t) links)) e

  here : (l : Link Mark) (links : List (Link Mark)) → turn_cmp t (its_turn l) ≡ Less → find (is_above t) (l ∷ links) ≡ Some l
  here l links e = ap (λ r. cond (is_lt r) (Some l) (find (is_above t) links)) e

  skip_kind : (k : ℕ) (links rest : List (Link Mark)) → AreOfKind k links → k < t.kind → find (is_above t) (links ++ rest) ≡ find (is_above t) rest
  skip_kind k [] rest kinds less = refl
  skip_kind k (x ∷ links) rest kinds less = skip x (links ++ rest) (kind-greater t (its_turn x) (omega (arith, less, kinds.0)))
      ∙ skip_kind k links rest kinds.1 less

  -- the first of the links that are above, or else of the rest
  abbrev FirstOf : List (Link Mark) → Option (Link Mark) → Option (Link Mark) → Type 0
  FirstOf [] found rest = found ≡ rest
  FirstOf (x ∷ back) found rest = found ≡ Some x

  -- the links below the turn, and those above it
  record Split (links rest : List (Link Mark)) : Type 0 where
    front : List (Link Mark)
    back : List (Link Mark)
    split : links ≡ front ++ back
    below : IsBelow mark_number t.number front
    above : IsAbove mark_number t.number back
    first : FirstOf back (find (is_above t) (links ++ rest)) (find (is_above t) rest)

  on-first : (x : Link Mark) (links rest back : List (Link Mark)) → turn_cmp t (its_turn x) ≡ Greater
      → FirstOf back (find (is_above t) (links ++ rest)) (find (is_above t) rest)
      → FirstOf back (find (is_above t) (x ∷ (links ++ rest))) (find (is_above t) rest)
  on-first x links rest [] e f = skip x (links ++ rest) e ∙ f
  on-first x links rest (y ∷ back) e f = skip x (links ++ rest) e ∙ f

  split_at : (links rest : List (Link Mark)) → AreOfKind t.kind links → IsRising mark_number links → HasNone mark_number t.number links → Split links rest
  split_at [] rest kinds rising none = record { front = []; back = []; split = refl; below = tt; above = tt; first = refl }
  split_at (x ∷ links) rest kinds rising none = elim (cases_lt t.number x.value.number) [
    | inl low ↦ record {
      front = [];
      back = x ∷ links;
      split = refl;
      below = tt;
      above = (low, above_lower mark_number t.number x.value.number links low rising.0);
      first = here x (links ++ rest) (number-less t (its_turn x) (sym kinds.0) low);
    }
    | inr not ↦
        let other : x.value.number ≢ t.number = none.0 in
        let high : x.value.number < t.number = omega (arith, not, other) in
        let more = split_at links rest kinds.1 rising.1 none.1 in
        record {
          front = x ∷ more.front;
          back = more.back;
          split = ap (λ (l : List (Link Mark)). x ∷ l) more.split;
          below = (high, more.below);
          above = more.above;
          first = on-first x links rest more.back (number-greater t (its_turn x) (sym kinds.0) high) more.first;
        }
  ]

  -- what is found of all lists is found from the turn's own list on
  record Own (links : List (Link Mark)) (lists : List (List (Link Mark))) : Type 0 where
    rest : List (Link Mark)
    late : AreLater t.kind rest
    found : find (is_above t) (all_links lists) ≡ find (is_above t) (links ++ rest)

  own : (k j : ℕ) (lists : List (List (Link Mark))) → AreFrom k lists → k + j ≡ t.kind → j < length lists → Own (get_or lists j []) lists
  own k j [] are is within = absurd (omega (arith, within))
  own k zero (links ∷ lists) are is within = record {
    rest = all_links lists;
    late = all_later t.kind (suc k) lists (omega (arith, is)) (rest_from k links lists are);
    found = refl;
  }
  own k (suc j) (links ∷ lists) are is within =
      let more = own (suc k) j lists (rest_from k links lists are) (omega (arith, is)) (omega (arith, within)) in
      record {
        rest = more.rest;
        late = more.late;
        found = skip_kind k links (all_links lists) (first_kind k links lists are) (omega (arith, is)) ∙ more.found;
      }

  late-found : (rest : List (Link Mark)) (l : Link Mark) → AreLater t.kind rest → find (is_above t) rest ≡ Some l → t.kind < kind_place l.value.kind
  late-found [] l late is = absurd (some_is_none l (sym is))
  late-found (x ∷ rest) l late is =
      let found = sym (here x rest (kind-less t (its_turn x) late.0)) ∙ is in
      let same : x ≡ l = inner x l found in
      subst (λ (y : Link Mark). t.kind < kind_place y.value.kind) same late.0
    where
      inner : (y z : Link Mark) → Some y ≡ Some z → y ≡ z
      inner y z e = cc

-- ---- where a turn belongs

-- the link of an entry that was found
record Found (at : Option (Link Mark)) (e : Turn × ℕ) : Type 0 where
  found : Link Mark
  is : at ≡ Some found
  entry : entry_of found ≡ e

found_link : (at : Option (Link Mark)) (e : Turn × ℕ) → option_map entry_of at ≡ Some e → Found at e
found_link None e is = absurd (some_is_none e (sym is))
found_link (Some l) e is = record { found = l; is = refl; entry = inner (entry_of l) e is }
  where
    inner : (d e : Turn × ℕ) → Some d ≡ Some e → d ≡ e
    inner d e s = cc

kind-at : (k : ℕ) (f : List (Link Mark)) (x : Link Mark) (b : List (Link Mark)) → AreOfKind k (f ++ x ∷ b) → kind_place x.value.kind ≡ k
kind-at k [] x b kinds = kinds.0
kind-at k (y ∷ f) x b kinds = kind-at k f x b kinds.1

-- a slot of the turn's list, and the gap before it, where the turn belongs
pub record NextIn (c : Lists Mark) (t : Turn) (slot : ℕ) : Type 0 where
  pub at : Place c slot
  pub gap : (behind : Option ℕ) → behind ≡ last_slot at.front → OrderedGap mark_number t.number c t.kind behind

module _ (c : Lists Mark) (order : TurnList Turn ℕ) (are : AreOrdered c order) (sorted : T (is_sorted turn_cmp order.list)) (t : Turn)
    (within : t.kind < length c.lists)
    (new : HasNone mark_number t.number (links_of c t.kind)) (result : Option (Turn × ℕ)) (is : result ≡ find (λ e. is_lt (turn_cmp t e.0)) order.list) where
  its_kind : AreOfKind t.kind (links_of c t.kind)
  its_kind = are.kinds t.kind (omega (arith, within, are.five))

  in_all : Own t (links_of c t.kind) c.lists
  in_all = own t 0 t.kind c.lists (from_first c order are) (omega arith) within

  parts : Split t (links_of c t.kind) in_all.rest
  parts = split_at t (links_of c t.kind) in_all.rest its_kind (are.rising t.kind (omega (arith, within, are.five))) new

  found_own : result ≡ option_map entry_of (find (is_above t) (links_of c t.kind ++ in_all.rest))
  found_own = is ∙ (find-listed c order are sorted t ∙ ap (option_map entry_of) in_all.found)

  -- no link is above it
  at_end : parts.back ≡ [] → (behind : Option ℕ) → behind ≡ last_slot (links_of c t.kind) → OrderedGap mark_number t.number c t.kind behind
  at_end none behind ends =
      let whole : links_of c t.kind ≡ parts.front = parts.split ∙ (ap (λ (b : List (Link Mark)). parts.front ++ b) none ∙ append-nil parts.front) in
      record { front = parts.front; back = parts.back; split = parts.split; ends = sym (ends ∙ ap last_slot whole); below = parts.below; above = parts.above }

  -- the first of the links above it
  first_is : (x : Link Mark) (back : List (Link Mark)) → parts.back ≡ x ∷ back → result ≡ Some (entry_of x)
  first_is x back e =
      let first = subst (λ (b : List (Link Mark)). FirstOf t b (find (is_above t) (links_of c t.kind ++ in_all.rest))
      (find (is_above t) in_all.rest)) e parts.first in
      found_own ∙ ap (option_map entry_of) first

  first_kind_is : (x : Link Mark) (back : List (Link Mark)) → parts.back ≡ x ∷ back → kind_place x.value.kind ≡ t.kind
  first_kind_is x back e = kind-at t.kind parts.front x back
      (subst (AreOfKind t.kind) (parts.split ∙ ap (λ (b : List (Link Mark)). parts.front ++ b) e) its_kind)

  -- the first turn above is of the same list,
  pub next-in : (e : Turn × ℕ) → result ≡ Some e → e.0.kind ≡ t.kind → NextIn c t e.1
  next-in e some same = through parts.back refl
    where
      through : (back : List (Link Mark)) → parts.back ≡ back → NextIn c t e.1
      through [] none =
          let first = subst (λ (b : List (Link Mark)). FirstOf t b (find (is_above t) (links_of c t.kind ++ in_all.rest))
          (find (is_above t) in_all.rest)) none parts.first in
          let l = found_link (find (is_above t) in_all.rest) e (sym (found_own ∙ ap (option_map entry_of) first) ∙ some) in
          let later = late-found t in_all.rest l.found in_all.late l.is in
          absurd (omega (arith, later, same, ap (λ (d : Turn × ℕ). d.0.kind) l.entry))
      through (x ∷ back) first =
          let l = found_link (Some x) e (sym (first_is x back first) ∙ some) in
          let slot : x.slot ≡ e.1 = found_slot x l.found e l.is l.entry in
          record {
            at = record {
              list = t.kind;
              within = within;
              front = parts.front;
              value = x.value;
              back = back;
              split = parts.split ∙ (ap (λ (b : List (Link Mark)). parts.front ++ b) first ∙ ap (λ n. parts.front ++ link n x.value ∷ back) slot);
            };
            gap = λ behind ends. record {
              front = parts.front;
              back = parts.back;
              split = parts.split;
              ends = sym ends;
              below = parts.below;
              above = parts.above;
            };
          }
        where
          found_slot : (x l : Link Mark) (e : Turn × ℕ) → Some x ≡ Some l → entry_of l ≡ e → x.slot ≡ e.1
          found_slot x l e same is = let one : x ≡ l = cc in ap (λ (y : Link Mark). y.slot) one ∙ ap (λ (d : Turn × ℕ). d.1) is

  -- it is of another,
  pub other-in : (e : Turn × ℕ) → result ≡ Some e → e.0.kind ≢ t.kind → (behind : Option ℕ) → behind ≡ last_slot (links_of c t.kind)
      → OrderedGap mark_number t.number c t.kind behind
  other-in e some other behind ends = through parts.back refl
    where
      through : (back : List (Link Mark)) → parts.back ≡ back → OrderedGap mark_number t.number c t.kind behind
      through [] none = at_end none behind ends
      through (x ∷ back) first =
          let same : entry_of x ≡ e = inner (entry_of x) e (sym (first_is x back first) ∙ some) in
          absurd (other (sym (ap (λ (d : Turn × ℕ). d.0.kind) same) ∙ first_kind_is x back first))
        where
          inner : (d e : Turn × ℕ) → Some d ≡ Some e → d ≡ e
          inner d e s = cc

  -- or there is none
  pub none-in : result ≡ None → (behind : Option ℕ) → behind ≡ last_slot (links_of c t.kind) → OrderedGap mark_number t.number c t.kind behind
  none-in nothing behind ends = through parts.back refl
    where
      through : (back : List (Link Mark)) → parts.back ≡ back → OrderedGap mark_number t.number c t.kind behind
      through [] none = at_end none behind ends
      through (x ∷ back) first = absurd (some_is_none (entry_of x) (sym (first_is x back first) ∙ nothing))
