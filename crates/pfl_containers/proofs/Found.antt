-- What is found under a key, and the map of the slots, after a slot is filled or freed.
use Rattle.std.proofs.Common.{◌≡◌, ◌≢◌, ◌+◌, ◌≤◌, ◌<◌, ℕ, zero, suc, Bool, true, false, cond, T, List, [], ◌∷◌, length, set, Option, Some, None}
use Rattle.std.proofs.Common.{is_some, refl, sym, ◌∙◌, ap, subst, arith}
use Rattle.std.proofs.lemmas.List.{length-set, set-set, set-get_or, get_or-set_same}
use Rattle.std.specs.declared.cmp.Ordering.{Ordering}
use Rattle.std.specs.Ordering.{eq_by_cmp}
use Rattle.std.specs.Cmp.{IsTotalOrder, eq_by_cmp_equiv}
use Rattle.std.specs.FinMap.{IsAntisymmetric}
use Rattle.pfl_edits.specs.Maps as maps
use Rattle.pfl_edits.specs.Maps.{set_at}
use Rattle.pfl_edits.proofs.ForCallers.{same_map, get-empty, get-insert, len-insert, set_at-back, same_key, own_key, some_is_none}
use Rattle.pfl_containers.specs.inner.Entries.{slot, value_at, slot_map, Distinct}

cond_none : {X : Type 0} (b : Bool) (x : X) (z : Option X) → cond b (Some x) z ≡ None → (b ≡ false) × (z ≡ None)
cond_none true x z e = absurd (some_is_none x e)
cond_none false x z e = (refl, e)

swapped : {X : Type 0} (a b : Bool) (x y z : X) → (a ≡ true → b ≡ true → ⊥) → cond a x (cond b y z) ≡ cond b y (cond a x z)
swapped true true x y z apart = absurd (apart refl refl)
swapped true false x y z apart = refl
swapped false b x y z apart = refl

module _ {K V : Type 0} where
  -- an entry stands within the slots
  pub within_slots : (slots : List (Option (K × V))) (place : ℕ) (e : K × V) → slot slots place ≡ Some e → place < length slots
  within_slots [] place e here = absurd (some_is_none e (sym here))
  within_slots (x ∷ slots) zero e here = omega arith
  within_slots (x ∷ slots) (suc place) e here = omega (arith, within_slots slots place e here)

  -- a slot that was freed and filled again is as it was
  pub refilled : (slots : List (Option (K × V))) (place : ℕ) (e : K × V) → slot slots place ≡ Some e → set (set slots place None) place (Some e) ≡ slots
  refilled slots place e here =
      set-set slots place None (Some e) ∙ (ap (set slots place) (sym here) ∙ set-get_or slots place None)

-- two keys that compare as equal to a third are one
clash : {K : Type 0} {R : K → K → Ordering} → IsTotalOrder R → IsAntisymmetric R → (q x y : K) → eq_by_cmp R q x ≡ true
    → eq_by_cmp R q y ≡ true → eq_by_cmp R y x ≡ false → ⊥
clash {R = R} o exact q x y a b apart =
    subst T (sym (own_key o exact (λ k. k) x)
    ∙ (ap (λ k. eq_by_cmp R k x) (sym (same_key o exact (λ k. k) q x a) ∙ same_key o exact (λ k. k) q y b) ∙ apart)) tt

module _ {K V : Type 0} {R : K → K → Ordering} (o : IsTotalOrder R) (exact : IsAntisymmetric R) where
  -- the map of the slots has what a scan of them finds
  pub get-slot_map : (slots : List (Option (K × V))) (q : K) → maps.get (slot_map R slots) q ≡ value_at R slots q
  get-slot_map [] q = get-empty R q
  get-slot_map (None ∷ slots) q = get-slot_map slots q
  get-slot_map (Some e ∷ slots) q =
      get-insert o (slot_map R slots) e.0 e.1 q ∙ ap (cond (eq_by_cmp R q e.0) (Some e.1)) (get-slot_map slots q)

  -- what is found once a free slot is filled
  pub value_at-filled : (slots : List (Option (K × V))) (place : ℕ) (e : K × V) (q : K) → place < length slots → slot slots place ≡ None
      → value_at R slots e.0 ≡ None
      → value_at R (set slots place (Some e)) q ≡ cond (eq_by_cmp R q e.0) (Some e.1) (value_at R slots q)
  value_at-filled [] place e q within free none = absurd (omega arith)
  value_at-filled (None ∷ slots) zero e q within free none = refl
  value_at-filled (Some x ∷ slots) zero e q within free none = absurd (some_is_none x free)
  value_at-filled (None ∷ slots) (suc place) e q within free none = value_at-filled slots place e q (omega arith) free none
  value_at-filled (Some x ∷ slots) (suc place) e q within free none =
      let apart = cond_none (eq_by_cmp R e.0 x.0) x.1 (value_at R slots e.0) none in
      ap (cond (eq_by_cmp R q x.0) (Some x.1)) (value_at-filled slots place e q (omega arith) free apart.1)
      ∙ swapped (eq_by_cmp R q x.0) (eq_by_cmp R q e.0) (Some x.1) (Some e.1) (value_at R slots q) (λ a b. clash o exact q x.0 e.0 a b apart.0)

  -- a new key keeps the keys apart
  pub Distinct-filled : (slots : List (Option (K × V))) (place : ℕ) (e : K × V) → place < length slots → slot slots place ≡ None → value_at R slots e.0 ≡ None
      → Distinct R slots → Distinct R (set slots place (Some e))
  Distinct-filled [] place e within free none d = absurd (omega arith)
  Distinct-filled (None ∷ slots) zero e within free none d = (none, d)
  Distinct-filled (Some x ∷ slots) zero e within free none d = absurd (some_is_none x free)
  Distinct-filled (None ∷ slots) (suc place) e within free none d = Distinct-filled slots place e (omega arith) free none d
  Distinct-filled (Some x ∷ slots) (suc place) e within free none d =
      let apart = cond_none (eq_by_cmp R e.0 x.0) x.1 (value_at R slots e.0) none in (
        value_at-filled slots place e x.0 (omega arith) free apart.1
            ∙ (ap (λ b. cond b (Some e.1) (value_at R slots x.0)) ((eq_by_cmp_equiv o).symm x.0 e.0 ∙ apart.0) ∙ d.0),
        Distinct-filled slots place e (omega arith) free apart.1 d.1,
      )

  -- once its slot is freed, no entry has the key, and the keys stay apart
  pub Distinct-freed : (slots : List (Option (K × V))) (place : ℕ) (e : K × V) → slot slots place ≡ Some e
      → Distinct R slots → (value_at R (set slots place None) e.0 ≡ None) × Distinct R (set slots place None)
  Distinct-freed [] place e here d = absurd (some_is_none e (sym here))
  Distinct-freed (None ∷ slots) zero e here d = absurd (some_is_none e (sym here))
  Distinct-freed (Some x ∷ slots) zero e here d = let same : x ≡ e = cc in (ap (λ (y : K × V). value_at R slots y.0) (sym same) ∙ d.0, d.1)
  Distinct-freed (None ∷ slots) (suc place) e here d = Distinct-freed slots place e here d
  Distinct-freed (Some x ∷ slots) (suc place) e here d =
      let rest = Distinct-freed slots place e here d.1 in
      let within : place < length (set slots place None) = rw length-set (within_slots slots place e here) in
      let again =
      value_at-filled (set slots place None) place e x.0 within (get_or-set_same slots place None None (within_slots slots place e here)) rest.0 in
      let apart = cond_none (eq_by_cmp R x.0 e.0) e.1 (value_at R (set slots place None) x.0)
      (sym again ∙ (ap (λ s. value_at R s x.0) (refilled slots place e here) ∙ d.0)) in
      (ap (λ b. cond b (Some x.1) (value_at R (set slots place None) e.0)) ((eq_by_cmp_equiv o).symm e.0 x.0 ∙ apart.0) ∙ rest.0, (apart.1, rest.1))

  -- a free slot that is filled sets its key
  pub slot_map-filled : (slots : List (Option (K × V))) (place : ℕ) (e : K × V) → place < length slots → slot slots place ≡ None → value_at R slots e.0 ≡ None
      → slot_map R (set slots place (Some e)) ≡ set_at (slot_map R slots) e.0 (Some e.1)
  slot_map-filled slots place e within free none = same_map o exact _ _ (λ q.
      get-slot_map (set slots place (Some e)) q ∙ value_at-filled slots place e q within free none
      ∙ sym (get-insert o (slot_map R slots) e.0 e.1 q ∙ ap (cond (eq_by_cmp R q e.0) (Some e.1)) (get-slot_map slots q)))

  module _ (slots : List (Option (K × V))) (place : ℕ) (e : K × V) (here : slot slots place ≡ Some e) (d : Distinct R slots) where
    within_freed : place < length (set slots place None)
    within_freed = rw length-set (within_slots slots place e here)

    free : slot (set slots place None) place ≡ None
    free = get_or-set_same slots place None None (within_slots slots place e here)

    -- what was there before a slot is freed
    pub slot_map-freed : slot_map R slots ≡ set_at (slot_map R (set slots place None)) e.0 (Some e.1)
    slot_map-freed =
        ap (slot_map R) (sym (refilled slots place e here))
        ∙ slot_map-filled (set slots place None) place e within_freed free (Distinct-freed slots place e here d).0

    -- and what is left
    pub slot_map-removed : slot_map R (set slots place None) ≡ set_at (slot_map R slots) e.0 None
    slot_map-removed =
        sym (ap (λ m. set_at m e.0 None) slot_map-freed
        ∙ set_at-back o exact (slot_map R (set slots place None)) e.0 None (Some e.1) (get-slot_map (set slots place None) e.0
        ∙ (Distinct-freed slots place e here d).0))

    -- the entry is found under its key
    pub value_at-here : value_at R slots e.0 ≡ Some e.1
    value_at-here =
        ap (λ s. value_at R s e.0) (sym (refilled slots place e here))
        ∙ (value_at-filled (set slots place None) place e e.0 within_freed free (Distinct-freed slots place e here d).0
        ∙ ap (λ b. cond b (Some e.1) (value_at R (set slots place None) e.0)) (own_key o exact (λ k. k) e.0))

  len-taken : (slots : List (Option (K × V))) (e : K × V) → value_at R slots e.0 ≡ None
      → maps.len (slot_map R (Some e ∷ slots)) ≡ maps.len (slot_map R slots) + 1
  len-taken slots e none =
      len-insert o (slot_map R slots) e.0 e.1
      ∙ ap (λ at. cond (is_some at) (maps.len (slot_map R slots)) (maps.len (slot_map R slots) + 1)) (get-slot_map slots e.0 ∙ none)

  -- where no slot from a place on is free, there are as many entries at least
  pub entries_from : (slots : List (Option (K × V))) (from : ℕ) → Distinct R slots → ((i : ℕ) → from ≤ i → i < length slots → slot slots i ≢ None)
      → length slots ≤ maps.len (slot_map R slots) + from
  entries_from [] from d taken = omega arith
  entries_from (None ∷ slots) zero d taken = absurd (taken 0 (omega arith) (omega arith) refl)
  entries_from (Some e ∷ slots) zero d taken =
      omega (arith, len-taken slots e d.0, entries_from slots zero d.1 (λ i after within. taken (suc i) (omega arith) (omega arith)))
  entries_from (None ∷ slots) (suc from) d taken =
      omega (arith, entries_from slots from d (λ i after within. taken (suc i) (omega arith) (omega arith)))
  entries_from (Some e ∷ slots) (suc from) d taken =
      omega (arith, len-taken slots e d.0, entries_from slots from d.1 (λ i after within. taken (suc i) (omega arith) (omega arith)))
