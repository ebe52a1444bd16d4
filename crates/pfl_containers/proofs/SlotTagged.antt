-- Entries of slots, each found from the home of its tag, after a place is filled or freed, and a gap that is closed.
use Rattle.std.proofs.Common.{◌≡◌, ◌≢◌, ◌⊎◌, inl, inr, ◌+◌, ◌≤◌, ◌<◌, ℕ, List, length, set, Option, Some, None, sym, ◌∙◌, subst, arith, refl}
use Rattle.std.proofs.lemmas.List.{length-set, get_or-set_same, get_or-set_other}
use Rattle.std.proofs.lemmas.Bool.{cases_eq}
use Rattle.std.proofs.lemmas.Cmp.{nat_cmp_total}
use Rattle.std.proofs.lemmas.Map.Lookups.{exact_unsigned}
use Rattle.std.specs.Ordering.{nat_cmp}
use Rattle.pfl_edits.specs.Maps as maps
use Rattle.pfl_containers.specs.inner.Entries.{slot, slot_map, value_at, NoGap, GapAt}
use Rattle.pfl_containers.specs.inner.SlotWords.{home_in, AreTagged}
use Rattle.pfl_containers.proofs.Found.{Distinct-freed, Distinct-filled, slot_map-filled, slot_map-freed, slot_map-removed, get-slot_map}
use Rattle.pfl_containers.proofs.Found.{value_at-here, within_slots}
use Rattle.pfl_containers.proofs.SlotHomes.{housed-freed, housed-filled, housed-closed}

module _ {buckets : ℕ} {entries : List (Option (ℕ × ℕ))} where
  module _ {IsGap : ℕ → Type 0} (IsLater : ℕ → Type 0) (sound : AreTagged buckets entries IsGap) (place : ℕ) (e : ℕ × ℕ) where
    -- a place that is freed is a gap
    pub tagged-freed : slot entries place ≡ Some e → ((i : ℕ) → IsGap i → IsLater i) → IsLater place → AreTagged buckets (set entries place None) IsLater
    tagged-freed here later gap = record {
      distinct = (Distinct-freed nat_cmp_total exact_unsigned entries place e here sound.distinct).1;
      housed = housed-freed _ entries IsGap IsLater sound.housed place (within_slots entries place e here) later gap;
    }

    -- one that is filled with an entry of a new slot is none
    pub tagged-filled : place < length entries → slot entries place ≡ None → value_at nat_cmp entries e.0 ≡ None → ((i : ℕ) → IsGap i → i ≢ place → IsLater i)
        → home_in buckets e.1 ≤ place → ((i : ℕ) → home_in buckets e.1 ≤ i → i < place → slot entries i ≡ None → IsLater i)
        → AreTagged buckets (set entries place (Some e)) IsLater
    tagged-filled within free none later after path = record {
      distinct = Distinct-filled nat_cmp_total exact_unsigned entries place e within free none sound.distinct;
      housed = housed-filled _ entries IsGap IsLater sound.housed place e within later after path;
    }

-- the gap hides no entry before the place
pub record IsClosing (buckets : ℕ) (entries : List (Option (ℕ × ℕ))) (gap place : ℕ) : Type 0 where
  pub order : gap < place
  pub within : gap < length entries
  pub free : slot entries gap ≡ None
  pub sound : AreTagged buckets entries (GapAt gap)
  pub past : (i : ℕ) (e : ℕ × ℕ) → gap < i → i < place → slot entries i ≡ Some e → gap < home_in buckets e.1

module _ {buckets : ℕ} {entries : List (Option (ℕ × ℕ))} {gap place : ℕ} (closing : IsClosing buckets entries gap place) where
  -- where the entries end, the gap is closed
  pub closed : slot entries place ≡ None → AreTagged buckets entries NoGap
  closed free = record {
    distinct = closing.sound.distinct;
    housed = housed-closed _ entries gap place closing.sound.housed closing.order free closing.past;
  }

  module _ (e : ℕ × ℕ) (here : slot entries place ≡ Some e) where
    -- an entry that stays, since its home is after the gap
    pub closing-kept : gap < home_in buckets e.1 → IsClosing buckets entries gap (place + 1)
    closing-kept far = record {
      order = omega (arith, closing.order);
      within = closing.within;
      free = closing.free;
      sound = closing.sound;
      past = λ i x after before is.
          elim (cases_eq i place) [
            | inl same ↦ let one : e ≡ x = cc in subst (λ (y : ℕ × ℕ). gap < home_in buckets y.1) one far
            | inr other ↦ closing.past i x after (omega arith) is
          ];
    }

    -- An entry is moved into the gap.
    apart : gap ≢ place
    apart = λ same. omega (arith, closing.order)

    within : gap < length (set entries place None)
    within = rw length-set closing.within

    free : slot (set entries place None) gap ≡ None
    free = get_or-set_other entries place gap None None apart ∙ closing.free

    -- it is the same map,
    pub map-moved : slot_map nat_cmp (set (set entries place None) gap (Some e)) ≡ slot_map nat_cmp entries
    map-moved =
        slot_map-filled nat_cmp_total exact_unsigned (set entries place None) gap e within free
        (Distinct-freed nat_cmp_total exact_unsigned entries place e here closing.sound.distinct).0
        ∙ sym (slot_map-freed nat_cmp_total exact_unsigned entries place e here closing.sound.distinct)

    IsEither : ℕ → Type 0
    IsEither i = (i ≡ gap) ⊎ (i ≡ place)

    tagged-moved : home_in buckets e.1 ≤ gap → AreTagged buckets (set (set entries place None) gap (Some e)) (GapAt place)
    unfolding IsEither
    tagged-moved near =
        tagged-filled (GapAt place) (tagged-freed IsEither closing.sound place e here (λ i is. inl is) (inr refl)) gap e within free
        (Distinct-freed nat_cmp_total exact_unsigned entries place e here closing.sound.distinct).0
        (λ i is other. elim is [ inl same ↦ absurd (other same) | inr same ↦ same ])
        near
        (λ i from before none.
        let order : i < place = omega (arith, closing.order) in
        let other : i ≢ place = omega arith in
        let same : i ≡ gap = closing.sound.housed.between place i e here from order (sym (get_or-set_other entries place i None None other) ∙ none) in
        absurd (omega arith))

    -- and the gap is where the entry stood
    pub closing-moved : home_in buckets e.1 ≤ gap → IsClosing buckets (set (set entries place None) gap (Some e)) place (place + 1)
    closing-moved near =
        let within_place = within_slots entries place e here in
        record {
          order = omega arith;
          within = rw (length-set, length-set) within_place;
          free = get_or-set_other (set entries place None) gap place (Some e) None (λ same. apart (sym same))
              ∙ get_or-set_same entries place None None within_place;
          sound = tagged-moved near;
          past = λ i x after before is. absurd (omega arith);
        }

-- The entry at a place is taken out.
module _ {buckets : ℕ} {entries : List (Option (ℕ × ℕ))} (sound : AreTagged buckets entries NoGap) (place : ℕ) (e : ℕ
    × ℕ) (here : slot entries place ≡ Some e) where
  -- it leaves a gap,
  pub tagged-taken : AreTagged buckets (set entries place None) (GapAt place)
  tagged-taken = tagged-freed (GapAt place) sound place e here (λ i gap. absurd gap) refl

  -- and is in the map no more
  pub map-taken : slot_map nat_cmp (set entries place None) ≡ maps.remove (slot_map nat_cmp entries) e.0
  map-taken = slot_map-removed nat_cmp_total exact_unsigned entries place e here sound.distinct

  -- it was the one of its slot
  pub get-here : maps.get (slot_map nat_cmp entries) e.0 ≡ Some e.1
  get-here = get-slot_map nat_cmp_total exact_unsigned entries e.0 ∙ value_at-here nat_cmp_total exact_unsigned entries place e here sound.distinct
