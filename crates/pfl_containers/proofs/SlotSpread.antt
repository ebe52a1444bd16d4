-- Entries that are put among other words one after another, as when the buckets grow.
use Rattle.std.proofs.Common.{◌≡◌, ◌+◌, ◌≤◌, ℕ, Bool, true, false, cond, List, [], ◌∷◌, ◌++◌, append_assoc, Option, Some, None, is_some, ◌∙◌, ap, subst, arith}
use Rattle.std.proofs.lemmas.List.{map-append}
use Rattle.std.proofs.lemmas.Cmp.{nat_cmp_total}
use Rattle.std.proofs.lemmas.Map.Lookups.{exact_unsigned}
use Rattle.std.specs.Ordering.{nat_cmp}
use Rattle.pfl_edits.specs.Maps as maps
use Rattle.pfl_edits.proofs.ForCallers.{len-insert}
use Rattle.pfl_containers.specs.declared.slots.words.Word.{Word}
use Rattle.pfl_containers.specs.inner.Entries.{slot_map, Distinct, NoGap}
use Rattle.pfl_containers.specs.inner.SlotWords.{entry_in, entries_in, tag_map, AreWords}
use Rattle.pfl_containers.proofs.Found.{get-slot_map}

-- ---- the entries after others

Distinct-back : (front back : List (Option (ℕ × ℕ))) → Distinct nat_cmp (front ++ back) → Distinct nat_cmp back
Distinct-back [] back d = d
Distinct-back (None ∷ front) back d = Distinct-back front back d
Distinct-back (Some e ∷ front) back d = Distinct-back front back d.1

no_less : (b : Bool) (n m : ℕ) → m ≡ cond b n (n + 1) → n ≤ m
no_less true n m e = omega arith
no_less false n m e = omega arith

len-back : (front back : List (Option (ℕ × ℕ))) → maps.len (slot_map nat_cmp back) ≤ maps.len (slot_map nat_cmp (front ++ back))
len-back [] back = omega arith
len-back (None ∷ front) back = len-back front back
len-back (Some e ∷ front) back =
    let m = slot_map nat_cmp (front ++ back) in
    omega (arith, len-back front back, no_less (is_some (maps.get m e.0)) (maps.len m) (maps.len (maps.insert m e.0 e.1)) (len-insert nat_cmp_total m e.0 e.1))

-- of all words some are spare yet, and the entries of the others were put
pub record ArePut (buckets : ℕ) (words spare all : List Word) : Type 0 where
  pub done : List Word
  pub split : all ≡ spare ++ done
  pub sound : AreWords buckets words NoGap
  pub map : tag_map words ≡ tag_map done

module _ {buckets : ℕ} {words spare all : List Word} (put : ArePut buckets words spare all) where
  -- The last of the spare words is taken.
  module _ (rest : List Word) (w : Word) (last : spare ≡ rest ++ w ∷ []) where
    split : all ≡ rest ++ w ∷ put.done
    split = put.split ∙ (ap (λ (xs : List Word). xs ++ put.done) last ∙ append_assoc rest (w ∷ []) put.done)

    parts : entries_in all ≡ entries_in rest ++ entry_in w ∷ entries_in put.done
    parts = ap entries_in split ∙ map-append entry_in rest (w ∷ put.done)

    -- It has an entry, whose slot is new.
    module _ (s tag : ℕ) (is : entry_in w ≡ Some (s, tag)) (distinct : Distinct nat_cmp (entries_in all)) where
      whole : entries_in all ≡ entries_in rest ++ Some (s, tag) ∷ entries_in put.done
      whole = parts ∙ ap (λ at. entries_in rest ++ at ∷ entries_in put.done) is

      pub put-new : maps.get (tag_map words) s ≡ None
      put-new =
          ap (λ m. maps.get m s) put.map
          ∙ (get-slot_map nat_cmp_total exact_unsigned (entries_in put.done) s
          ∙ (Distinct-back (entries_in rest) (Some (s, tag) ∷ entries_in put.done) (subst (λ es. Distinct nat_cmp es) whole distinct)).0)

  -- at any time there are at most as many entries as in the end
  pub put-room : maps.len (tag_map words) ≤ maps.len (tag_map all)
  put-room = rw (put.map, put.split, map-append) (len-back (entries_in spare) (entries_in put.done))
