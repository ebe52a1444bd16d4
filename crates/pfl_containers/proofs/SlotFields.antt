-- The fields of an index of slots, when it is made, and when a slot comes or goes.
use Rattle.std.proofs.Common.{◌≡◌, inl, inr, ◌+◌, ◌-◌, ◌*◌, ◌/◌, ◌≤◌, ◌<◌, ◌^◌, ℕ, zero, suc, cond, List, [], ◌∷◌, ◌++◌, length, take, drop}
use Rattle.std.proofs.Common.{replicate, Option, Some, None, is_some, sym, ◌∙◌, ap, subst, arith, refl}
use Rattle.std.proofs.lemmas.List.{length-replicate, get_or-replicate, get_or_past, take_all, drop_all, append-nil}
use Rattle.std.proofs.lemmas.Bool.{cases_lt}
use Rattle.std.proofs.lemmas.Cmp.{nat_cmp_total}
use Rattle.std.specs.Ordering.{nat_cmp}
use Rattle.pfl_edits.specs.Maps as maps
use Rattle.pfl_edits.specs.Maps.{Map}
use Rattle.pfl_edits.proofs.ForCallers.{get-empty, len-empty, len-insert, len-remove, empty_of_len, some_is_none}
use Rattle.pfl_containers.specs.declared.slots.words.Word.{Word}
use Rattle.pfl_containers.specs.inner.Entries.{slot, slot_map, Distinct, NoGap}
use Rattle.pfl_containers.specs.inner.SlotWords.{entry_in, entries_in, tag_map, AreTagged, AreWords, AreFields}

-- ---- lists of words

-- an empty list, made as long
pub resized : {X : Type 0} (n m : ℕ) (old : List X) (x : X) → old ≡ [] → m ≡ 0 → take n old ++ replicate (n - m) x ≡ replicate n x
resized n m old x none nought =
    ap (λ (xs : List _). take n xs ++ replicate (n - m) x) none
    ∙ (ap (λ (xs : List _). xs ++ replicate (n - m) x) (take_all n [] (omega arith)) ∙ ap (λ k. replicate k x) (omega (arith, nought)))

-- a slice that was the whole of a list, once it is written back
pub whole : {X : Type 0} (xs ys : List X) (n : ℕ) → length ys ≡ length xs → n ≡ length xs → take n (ys ++ drop (length ys) xs) ≡ ys
whole xs ys n same is =
    ap (λ (zs : List _). take n (ys ++ zs)) (drop_all (length ys) xs (omega (arith, same)))
    ∙ (ap (take n) (append-nil ys) ∙ take_all n ys (omega (arith, same, is)))

-- ---- words that are all free

entries-free : (n : ℕ) (w : Word) → entry_in w ≡ None → entries_in (replicate n w) ≡ replicate n None
entries-free zero w none = refl
entries-free (suc n) w none = λ i. none i ∷ entries-free n w none i

Distinct-free : (n : ℕ) → Distinct {V = ℕ} nat_cmp (replicate n None)
Distinct-free zero = tt
Distinct-free (suc n) = Distinct-free n

slot_map-free : (n : ℕ) → slot_map {V = ℕ} nat_cmp (replicate n None) ≡ maps.empty
slot_map-free zero = refl
slot_map-free (suc n) = slot_map-free n

slot-free : (n i : ℕ) → slot {K = ℕ} {V = ℕ} (replicate n None) i ≡ None
slot-free n i =
    elim (cases_lt i n) [
      | inl below ↦ get_or-replicate n i None None below
      | inr past ↦ get_or_past (replicate n None) i None (omega (arith, length-replicate {A = Option (ℕ × ℕ)} n None))
    ]

-- they have no entry,
pub tag_map-free : (n : ℕ) (w : Word) → entry_in w ≡ None → tag_map (replicate n w) ≡ maps.empty
tag_map-free n w none = ap (slot_map nat_cmp) (entries-free n w none) ∙ slot_map-free n

-- and each of none is found
pub words-free : (buckets n : ℕ) (w : Word) → entry_in w ≡ None → AreWords buckets (replicate n w) NoGap
words-free buckets n w none = subst (λ es. AreTagged buckets es NoGap) (sym (entries-free n w none)) (record {
  distinct = Distinct-free n;
  housed = record {
    after = λ place e is. absurd (some_is_none e (sym is ∙ slot-free n place));
    between = λ place i e is from before free. absurd (some_is_none e (sym is ∙ slot-free n place));
  };
})

-- an index of no slots
pub fields-free : (limit buckets capacity : ℕ) (w : Word) → entry_in w ≡ None → 0 < buckets → buckets ≤ 2 * limit + 1 → limit ≤ 2 ^ 30
    → (buckets < 2 * limit + 1 → buckets ≤ limit) → 3 * limit + 1 ≤ capacity
    → AreFields limit 0 buckets (replicate (buckets + buckets / 2) w) capacity
fields-free limit buckets capacity w none some most small sparse room = record {
  sound = words-free buckets (buckets + buckets / 2) w none;
  count = sym (ap maps.len (tag_map-free (buckets + buckets / 2) w none) ∙ len-empty nat_cmp ℕ);
  below = omega arith;
  few = omega arith;
  some = some;
  most = most;
  small = small;
  long = length-replicate (buckets + buckets / 2) w;
  sparse = sparse;
  room = room;
}

-- ---- a slot that comes or goes

-- where a key has a value there is an entry
some_entry : (m : Map nat_cmp ℕ) (q v : ℕ) → maps.get m q ≡ Some v → 1 ≤ maps.len m
some_entry m q v is =
    elim (cases_lt 0 (maps.len m)) [
      | inl some ↦ some
      | inr none ↦ absurd (some_is_none v (sym is ∙ (ap (λ m. maps.get m q) (empty_of_len m (omega arith)) ∙ get-empty nat_cmp q)))
    ]

module _ {limit len buckets capacity : ℕ} (words : List Word) (fields : AreFields limit len buckets words capacity) where
  -- there is a slot
  pub not_empty : (s tag : ℕ) → maps.get (tag_map words) s ≡ Some tag → 1 ≤ len
  not_empty s tag has = omega (arith, fields.count, some_entry (tag_map words) s tag has)

  module _ (s tag : ℕ) (new : List Word) (sound : AreWords buckets new NoGap) (same : length new ≡ length words) where
    pub fields-put : tag_map new ≡ maps.insert (tag_map words) s tag → maps.get (tag_map words) s ≡ None → len < limit → len < buckets / 2
        → AreFields limit (len + 1) buckets new capacity
    fields-put is none room less = record {
      sound = sound;
      count = sym (ap maps.len is ∙ (len-insert nat_cmp_total (tag_map words) s tag
          ∙ (ap (λ (at : Option ℕ). cond (is_some at) (maps.len (tag_map words)) (maps.len (tag_map words) + 1)) none ∙ ap (λ n. n + 1) (sym fields.count))));
      below = omega arith;
      few = omega arith;
      some = fields.some;
      most = fields.most;
      small = fields.small;
      long = same ∙ fields.long;
      sparse = fields.sparse;
      room = fields.room;
    }

    pub fields-taken : tag_map new ≡ maps.remove (tag_map words) s → maps.get (tag_map words) s ≡ Some tag → AreFields limit (len - 1) buckets new capacity
    fields-taken is has = record {
      sound = sound;
      count = sym (ap maps.len is ∙ (len-remove nat_cmp_total (tag_map words) s
          ∙ (ap (λ (at : Option ℕ). cond (is_some at) (maps.len (tag_map words) - 1) (maps.len (tag_map words))) has ∙ ap (λ n. n - 1) (sym fields.count))));
      below = omega (arith, fields.below);
      few = omega (arith, fields.few);
      some = fields.some;
      most = fields.most;
      small = fields.small;
      long = same ∙ fields.long;
      sparse = fields.sparse;
      room = fields.room;
    }
