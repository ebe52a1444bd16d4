-- The map of entries in order, and for what there is room. Proofs of the crates above cite these.
use Rattle.std.specs.Prelude.{◌≡◌, ◌≤◌, ◌<◌, ◌+◌, ◌-◌, ℕ, Bool, true, false, is_some, List, [], length, Option, Some, None}
use Rattle.std.specs.declared.cmp.Ordering.{Ordering}
use Rattle.std.specs.Cmp.{IsTotalOrder}
use Rattle.std.specs.FinMap.Entries.{put, find, is_sorted, is_sorted-put, is_sorted-where_key}
use Rattle.std.proofs.Common.{T, cond, ◌∙◌, ap, sym, arith}
use Rattle.pfl_edits.specs.Maps as maps
use Rattle.pfl_edits.specs.Maps.{same_entries_map, set_at}
use Rattle.pfl_edits.proofs.ForCallers.{get-entries, entries-empty, entries-from_sorted, len-entries, entries-insert, len-insert, len-remove}
use Rattle.pfl_containers.specs.inner.Changes.{without}
use Rattle.pfl_containers.specs.OrderEntries.{EntryList, map_of, AreEntries}

module _ {K V : Type 0} (R : K → K → Ordering) where
  -- entries in order are those of their map,
  pub entries-map_of : (es : List (K × V)) → T (is_sorted R es) → maps.entries (map_of R es) ≡ es
  entries-map_of es sorted = entries-from_sorted R es sorted

  -- which finds what a search of them does,
  pub get-map_of : (es : List (K × V)) (q : K) → T (is_sorted R es) → maps.get (map_of R es) q ≡ find R q es
  get-map_of es q sorted = get-entries (map_of R es) q ∙ ap (find R q) (entries-map_of es sorted)

  -- and is as long
  pub len-map_of : (es : List (K × V)) → T (is_sorted R es) → maps.len (map_of R es) ≡ length es
  len-map_of es sorted = len-entries (map_of R es) ∙ ap length (entries-map_of es sorted)

  -- no entries are of the empty map
  pub map_of-none : map_of {V = V} R [] ≡ maps.empty
  map_of-none = same_entries_map _ _ (entries-map_of [] tt ∙ sym (entries-empty R))

module _ {K V : Type 0} {R : K → K → Ordering} (o : IsTotalOrder R) (es : List (K × V)) (sorted : T (is_sorted R es)) where
  -- an entry put among them is an insertion into their map,
  pub map_of-put : (k : K) (v : V) → map_of R (put R k v es) ≡ maps.insert (map_of R es) k v
  map_of-put k v =
      same_entries_map _ _ (entries-map_of R (put R k v es) (is_sorted-put R o k v es sorted)
      ∙ (ap (put R k v) (sym (entries-map_of R es sorted)) ∙ sym (entries-insert o (map_of R es) k v)))

  -- and one left out is a removal
  pub map_of-without : (q : K) → map_of R (without R q es) ≡ maps.remove (map_of R es) q
  unfolding maps.remove maps.retain_keys maps.entries
  map_of-without q =
      same_entries_map _ _ (entries-map_of R (without R q es) (is_sorted-where_key R _ es sorted)
      ∙ ap (without R q) (sym (entries-map_of R es sorted)))

-- Where there is room for what is set under a key.
module _ {K V : Type 0} {R : K → K → Ordering} (o : IsTotalOrder R) (m : EntryList K V) (are : AreEntries R m) (q : K) where
  -- to remove what is there,
  pub room_to_remove : maps.len (set_at (map_of R m.list) q None) ≤ m.limit
  room_to_remove =
      rw (len-remove o (map_of R m.list) q) (at_most (is_some (maps.get (map_of R m.list) q)) (omega (arith, len-map_of R m.list are.sorted, are.few)))
    where
      at_most : (b : Bool) {n : ℕ} → n ≤ m.limit → cond b (n - 1) n ≤ m.limit
      at_most true h = omega arith
      at_most false h = h

  -- and to set any where not all room is taken
  pub room_to_set : length m.list < m.limit → (at : Option V) → maps.len (set_at (map_of R m.list) q at) ≤ m.limit
  room_to_set less None = room_to_remove
  room_to_set less (Some v) =
      rw (len-insert o (map_of R m.list) q v) (at_most (is_some (maps.get (map_of R m.list) q)) (omega (arith, len-map_of R m.list are.sorted, less)))
    where
      at_most : (b : Bool) {n : ℕ} → n < m.limit → cond b n (n + 1) ≤ m.limit
      at_most true h = omega arith
      at_most false h = omega arith
