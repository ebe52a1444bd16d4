-- The entries of words: what is read and written at a place, and what a search among them finds.
use Rattle.std.proofs.Common.{◌≡◌, ◌==◌, ◌≢◌, inl, inr, ◌+◌, ◌≤◌, ◌<◌, ℕ, zero, suc, Bool, true, false, cond, List, [], ◌∷◌, length, get_or, set}
use Rattle.std.proofs.Common.{Option, Some, None, sym, ◌∙◌, ap, subst, arith, refl}
use Rattle.std.proofs.lemmas.List.{map-set, length-map, get_or-map, get_or-set_same}
use Rattle.std.proofs.lemmas.Bool.{cases_eq, cases_lt, cases_order, ne_eqb}
use Rattle.std.proofs.lemmas.Cmp.{nat_cmp_total}
use Rattle.std.proofs.lemmas.Map.Lookups.{exact_unsigned}
use Rattle.std.specs.Ordering.{nat_cmp, eq_by_cmp}
use Rattle.pfl_edits.specs.Maps as maps
use Rattle.pfl_edits.proofs.ForCallers.{same_key, some_is_none}
use Rattle.pfl_containers.specs.declared.slots.words.Word.{Word}
use Rattle.pfl_containers.specs.Slots.{FindsBy, HasTag}
use Rattle.pfl_containers.specs.inner.Entries.{slot, slot_map, value_at, NoGap, GapAt}
use Rattle.pfl_containers.specs.inner.SlotWords.{no_slot, entry_in, entries_in, entry_at, tag_map, home_in, AreTagged, AreWords, StandsAt, SearchGives, IsFree}
use Rattle.pfl_containers.proofs.Found.{slot_map-filled, get-slot_map, entries_from}
use Rattle.pfl_containers.proofs.SlotTagged.{IsClosing, tagged-filled, closing-moved, map-moved, tagged-taken, map-taken, get-here}

-- a word of no slot is free,
pub entry-free : (w : Word) → w.slot ≡ no_slot → entry_in w ≡ None
entry-free w is = ap (λ (s : ℕ). cond (s == no_slot) None (Some (s, w.tag))) is

-- and any other has an entry
pub entry-taken : (w : Word) → w.slot ≢ no_slot → entry_in w ≡ Some (w.slot, w.tag)
entry-taken w other = ap (λ b. cond b None (Some (w.slot, w.tag))) (ne_eqb w.slot no_slot other)

-- the entry of a word is of the word's slot
pub entry-slot : (w : Word) (e : ℕ × ℕ) → entry_in w ≡ Some e → (w.slot ≡ e.0) × (w.slot ≢ no_slot)
entry-slot w e is =
    elim (cases_eq w.slot no_slot) [
      | inl same ↦ absurd (some_is_none e (sym is ∙ entry-free w same))
      | inr other ↦ let entries : Some (w.slot, w.tag) ≡ Some e = sym (entry-taken w other) ∙ is in (cc, other)
    ]

-- two entries that are one
pub same_parts : (s t q u : ℕ) → ◌≡◌ {A = Option (ℕ × ℕ)} (Some (s, t)) (Some (q, u)) → (q ≡ s) × (u ≡ t)
same_parts s t q u is = let same : ◌≡◌ {A = ℕ × ℕ} (s, t) (q, u) = cc in (sym (ap (λ (p : ℕ × ℕ). p.0) same), sym (ap (λ (p : ℕ × ℕ). p.1) same))

-- what is read,
pub entry-read : (words : List Word) (place : ℕ) (d : Word) → place < length words → entry_at words place ≡ entry_in (get_or words place d)
entry-read words place d within = get_or-map entry_in words place d None within

-- and what is written
pub entries-set : (words : List Word) (place : ℕ) (w : Word) (at : Option (ℕ × ℕ)) → entry_in w ≡ at
    → entries_in (set words place w) ≡ set (entries_in words) place at
entries-set words place w at is = map-set entry_in words place w ∙ ap (set (entries_in words) place) is

-- an entry stands within the words
pub within_words : (words : List Word) (place : ℕ) (e : ℕ × ℕ) → entry_at words place ≡ Some e → place < length words
within_words [] place e here = absurd (some_is_none e (sym here))
within_words (w ∷ words) zero e here = omega arith
within_words (w ∷ words) (suc place) e here = omega (arith, within_words words place e here)

-- a word that is not of the slot is before its entry,
pub not-yet : (words : List Word) (at place s tag : ℕ) (d : Word) → at ≤ place → StandsAt words tag s place
    → ((get_or words at d).slot ≡ s → ⊥) → at + 1 ≤ place
not-yet words at place s tag d upto is other =
    elim (cases_eq place at) [
      | inl same ↦ absurd (other (ap (λ p. (get_or words p d).slot) (sym same)
          ∙ (entry-slot _ _ (sym (entry-read words place d (within_words words place (s, tag) is)) ∙ is)).0))
      | inr apart ↦ omega arith
    ]

-- and one that is has an entry of it
pub number-stands : (words : List Word) (at place s tag : ℕ) (d : Word) → at ≤ place → StandsAt words tag s place
    → (get_or words at d).slot ≡ s → (t : ℕ) × StandsAt words t s at
number-stands words at place s tag d upto is same =
    let inside = within_words words place (s, tag) is in
    let named = entry-slot (get_or words place d) (s, tag) (sym (entry-read words place d inside) ∙ is) in
    let within : at < length words = omega (arith, inside) in (
      (get_or words at d).tag,
      entry-read words at d within
          ∙ (entry-taken (get_or words at d) (λ none. named.1 (named.0 ∙ (sym same ∙ none)))
          ∙ ap (λ (n : ℕ). Some (n, (get_or words at d).tag)) same),
    )

-- where a slot has a tag, its entry stands at a place
pub stands-somewhere : (entries : List (Option (ℕ × ℕ))) (q tag : ℕ) → value_at nat_cmp entries q ≡ Some tag
    → (place : ℕ) × (slot entries place ≡ Some (q, tag))
stands-somewhere [] q tag is = absurd (some_is_none tag (sym is))
stands-somewhere (None ∷ entries) q tag is = let rest = stands-somewhere entries q tag is in (suc rest.0, rest.1)
stands-somewhere (Some e ∷ entries) q tag is =
    elim (eq_by_cmp nat_cmp q e.0) as (λ b. eq_by_cmp nat_cmp q e.0 ≡ b → cond b (Some e.1) (value_at nat_cmp entries q) ≡ Some tag
    → (place : ℕ) × (slot (Some e ∷ entries) place ≡ Some (q, tag))) [
      | true ↦ λ t has.
          let slots : q ≡ e.0 = same_key nat_cmp_total exact_unsigned (λ k. k) q e.0 t in
          let tags : e.1 ≡ tag = cc in
          (0, λ i. Some (sym slots i, tags i))
      | false ↦ λ t has. let rest = stands-somewhere entries q tag has in (suc rest.0, rest.1)
    ] refl is

module _ {buckets : ℕ} (words : List Word) (sound : AreWords buckets words NoGap) where
  -- the entry that stands at a place is the one of its slot
  pub has-tag : (place s tag : ℕ) → StandsAt words tag s place → HasTag (tag_map words) tag s
  has-tag place s tag is = get-here sound place (s, tag) is

  -- a slot's entry stands at its home or after it
  pub stands : (s tag : ℕ) → HasTag (tag_map words) tag s → (place : ℕ) × (t : ℕ) × (home_in buckets tag ≤ place) × StandsAt words t s place
  stands s tag has =
      let there = stands-somewhere (entries_in words) s tag (sym (get-slot_map nat_cmp_total exact_unsigned (entries_in words) s) ∙ has) in
      (there.0, tag, sound.housed.after there.0 (s, tag) there.1, there.1)

  -- what a search from the home of a tag finds
  pub finds : (answer : ℕ → Bool → Type 0) (tag : ℕ) (result : Option ℕ)
      → SearchGives (λ s. answer s true) (λ s. answer s false) words tag (home_in buckets tag) result → FindsBy answer (tag_map words) tag result
  finds answer tag None (place, ends) = λ s has.
      let there = stands s tag has in
      let is : entry_at words there.0 ≡ Some (s, tag) = subst (λ t. StandsAt words t s there.0) (tags_of s tag there has) there.3 in
      elim (cases_order there.0 place) [
        | inl same ↦ absurd (some_is_none (s, tag) (sym is ∙ (ap (entry_at words) same ∙ ends.free)))
        | inr (inl before) ↦ ends.passed there.0 s there.2 before is
        | inr (inr after) ↦ absurd (sound.housed.between there.0 place (s, tag) is ends.order after ends.free)
      ]
    where
      tags_of : (s tag : ℕ) (there : (place : ℕ) × (t : ℕ) × (home_in buckets tag ≤ place) × StandsAt words t s place)
          → HasTag (tag_map words) tag s → there.1 ≡ tag
      tags_of s tag there has = let both : Some there.1 ≡ Some tag = sym (has-tag there.0 s there.1 there.3) ∙ has in cc
  finds answer tag (Some s) found = (has-tag found.0 s tag found.1, found.2)

  -- A free place is found.
  module _ {from place : ℕ} (free : IsFree words from place) where
    pub place_left : from < buckets → maps.len (tag_map words) + buckets ≤ length words → place < length words
    place_left few room =
        elim (cases_lt place (length words)) [
          | inl within ↦ within
          | inr past ↦
              let many = entries_from nat_cmp_total exact_unsigned (entries_in words) from sound.distinct
              (λ i after within. free.taken i after (omega (arith, length-map words entry_in))) in
              absurd (omega (arith, many, length-map words entry_in))
        ]

  module _ (s tag : ℕ) {place : ℕ} (free : IsFree words (home_in buckets tag) place) (within : place < length words)
      (new : maps.get (tag_map words) s ≡ None) (small : s < no_slot) where
    written : entries_in (set words place (record { slot = s; tag = tag })) ≡ set (entries_in words) place (Some (s, tag))
    written = entries-set words place (record { slot = s; tag = tag }) (Some (s, tag)) (entry-taken (record { slot = s; tag = tag }) (λ same. omega arith))

    none : value_at nat_cmp (entries_in words) s ≡ None
    none = sym (get-slot_map nat_cmp_total exact_unsigned (entries_in words) s) ∙ new

    inside : place < length (entries_in words)
    inside = rw length-map within

    -- an entry is put there
    pub words-put : AreWords buckets (set words place (record { slot = s; tag = tag })) NoGap
    words-put =
        subst (λ es. AreTagged buckets es NoGap) (sym written)
        (tagged-filled NoGap sound place (s, tag) inside free.free none (λ i gap other. gap) free.order (λ i from before empty. free.taken i from before empty))

    pub map-put : tag_map (set words place (record { slot = s; tag = tag })) ≡ maps.insert (tag_map words) s tag
    map-put = ap (slot_map nat_cmp) written ∙ slot_map-filled nat_cmp_total exact_unsigned (entries_in words) place (s, tag) inside free.free none

  -- An entry is taken out: f is a free word.
  module _ (s tag place : ℕ) (here : StandsAt words tag s place) (f : Word) (none : entry_in f ≡ None) where
    freed : entries_in (set words place f) ≡ set (entries_in words) place None
    freed = entries-set words place f None none

    pub free-taken : entry_at (set words place f) place ≡ None
    free-taken = ap (λ es. slot es place) freed ∙ get_or-set_same (entries_in words) place None None (rw length-map (within_words words place (s, tag) here))

    pub words-taken : AreWords buckets (set words place f) (GapAt place)
    words-taken = subst (λ es. AreTagged buckets es (GapAt place)) (sym freed) (tagged-taken sound place (s, tag) here)

    pub map-less : tag_map (set words place f) ≡ maps.remove (tag_map words) s
    map-less = ap (slot_map nat_cmp) freed ∙ map-taken sound place (s, tag) here

-- An entry is moved into a gap.
module _ {buckets gap place : ℕ} (words : List Word) (closing : IsClosing buckets (entries_in words) gap place) (e : ℕ
    × ℕ) (here : entry_at words place ≡ Some e) (w f : Word) (is : entry_in w ≡ Some e) (none : entry_in f ≡ None) where
  both : entries_in (set (set words place f) gap w) ≡ set (set (entries_in words) place None) gap (Some e)
  both = entries-set (set words place f) gap w (Some e) is ∙ ap (λ es. set es gap (Some e)) (entries-set words place f None none)

  pub words-moved : home_in buckets e.1 ≤ gap → IsClosing buckets (entries_in (set (set words place f) gap w)) place (place + 1)
  words-moved near = subst (λ es. IsClosing buckets es place (place + 1)) (sym both) (closing-moved closing e here near)

  pub tags-moved : tag_map (set (set words place f) gap w) ≡ tag_map words
  tags-moved = ap (slot_map nat_cmp) both ∙ map-moved closing e here
