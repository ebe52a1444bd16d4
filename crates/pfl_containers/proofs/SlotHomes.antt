-- Which entries are found from their homes, after a place is filled or freed.
use Rattle.std.proofs.Common.{◌≡◌, ◌≢◌, inl, inr, ◌≤◌, ◌<◌, ℕ, List, length, set, Option, Some, None, sym, ◌∙◌, ap, subst, arith}
use Rattle.std.proofs.lemmas.List.{get_or-set_same, get_or-set_other}
use Rattle.std.proofs.lemmas.Bool.{cases_eq, cases_order}
use Rattle.pfl_edits.proofs.ForCallers.{some_is_none}
use Rattle.pfl_containers.specs.inner.Entries.{slot, NoGap, GapAt}
use Rattle.pfl_containers.specs.inner.SlotWords.{AreHoused}

module _ {K V : Type 0} (home : K × V → ℕ) (slots : List (Option (K × V))) where
  module _ (IsGap IsLater : ℕ → Type 0) (housed : AreHoused home slots IsGap) where
    -- a place that is freed is a gap
    pub housed-freed : (place : ℕ) → place < length slots → ((i : ℕ) → IsGap i → IsLater i) → IsLater place → AreHoused home (set slots place None) IsLater
    housed-freed place within later gap = record {
      after = λ k e is. housed.after k e (before k e is);
      between = λ k i e is from below none.
          elim (cases_eq i place) [
            | inl same ↦ subst IsLater (sym same) gap
            | inr other ↦ later i (housed.between k i e (before k e is) from below (sym (get_or-set_other slots place i None None other) ∙ none))
          ];
    }
      where
        before : (k : ℕ) (e : K × V) → slot (set slots place None) k ≡ Some e → slot slots k ≡ Some e
        before k e is =
            elim (cases_eq k place) [
              | inl same ↦ absurd (some_is_none e (sym is ∙ (ap (slot (set slots place None)) same ∙ get_or-set_same slots place None None within)))
              | inr other ↦ sym (get_or-set_other slots place k None None other) ∙ is
            ]

    -- one that is filled is none
    pub housed-filled : (place : ℕ) (e : K × V) → place < length slots → ((i : ℕ) → IsGap i → i ≢ place → IsLater i)
        → home e ≤ place → ((i : ℕ) → home e ≤ i → i < place → slot slots i ≡ None → IsLater i) → AreHoused home (set slots place (Some e)) IsLater
    housed-filled place e within later near path = record {
      after = λ k x is.
          elim (cases_eq k place) [
            | inl same ↦ subst (λ (y : K × V). home y ≤ k) (there k x is same) (omega arith)
            | inr other ↦ housed.after k x (elsewhere k other is)
          ];
      between = λ k i x is from below none.
          elim (cases_eq i place) [
            | inl same ↦ absurd (some_is_none e (sym (get_or-set_same slots place (Some e) None within)
                ∙ (ap (slot (set slots place (Some e))) (sym same) ∙ none)))
            | inr apart ↦
                elim (cases_eq k place) [
                  | inl same ↦ path i (subst (λ (y : K × V). home y ≤ i) (sym (there k x is same)) from) (omega arith) (elsewhere i apart none)
                  | inr other ↦ later i (housed.between k i x (elsewhere k other is) from below (elsewhere i apart none)) apart
                ]
          ];
    }
      where
        there : (k : ℕ) (x : K × V) → slot (set slots place (Some e)) k ≡ Some x → k ≡ place → e ≡ x
        there k x is same =
            let entries : Some e ≡ Some x = sym (get_or-set_same slots place (Some e) None within)
            ∙ (ap (slot (set slots place (Some e))) (sym same) ∙ is) in cc

        elsewhere : {at : Option (K × V)} (k : ℕ) → k ≢ place → slot (set slots place (Some e)) k ≡ at → slot slots k ≡ at
        elsewhere k other is = sym (get_or-set_other slots place k (Some e) None other) ∙ is

  -- a gap at the end of the entries that follow it, all of which are at their homes or after these, hides none
  pub housed-closed : (gap end : ℕ) → AreHoused home slots (GapAt gap) → gap < end → slot slots end ≡ None
      → ((k : ℕ) (e : K × V) → gap < k → k < end → slot slots k ≡ Some e → gap < home e) → AreHoused home slots NoGap
  housed-closed gap end housed order free past = record {
    after = housed.after;
    between = λ k i e is from below none.
        let here : i ≡ gap = housed.between k i e is from below none in
        elim (cases_order k end) [
          | inl same ↦ some_is_none e (sym is ∙ (ap (slot slots) same ∙ free))
          | inr (inl before) ↦ let later : gap < home e = past k e (omega arith) before is in omega arith
          | inr (inr after) ↦ let again : end ≡ gap = housed.between k end e is (omega arith) after free in omega arith
        ];
  }
