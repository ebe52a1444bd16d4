-- What setting a place among rows does to the map that they stand for.
use Rattle.std.proofs.Common.{◌≡◌, ◌+◌, ◌-◌, ◌≤◌, ◌<◌, ℕ, suc, cond, List, ◌++◌, length, take, drop, set, get_or, Option, Some}
use Rattle.std.proofs.Common.{None, IfSome, is_some, sym, ◌∙◌, ap, subst, arith}
use Rattle.std.specs.List.{insert, remove}
use Rattle.std.proofs.lemmas.List.{set_split, take-append-drop}
use Rattle.std.specs.declared.cmp.Ordering.{Ordering}
use Rattle.std.specs.Cmp.{IsTotalOrder}
use Rattle.std.specs.FinMap.{IsAntisymmetric}
use Rattle.pfl_edits.specs.Maps as maps
use Rattle.pfl_edits.specs.Maps.{Map, set_at}
use Rattle.pfl_edits.proofs.Maps.{len-insert}
use Rattle.pfl_edits.proofs.RowMaps.{row_at, get-map_of, len-map_of, map_with, map_without, map_of-between, map_as_it_is, Distinct-rising}
use Rattle.pfl_edits.specs.Rows.{map_of}
use Rattle.pfl_edits.specs.Ordered.{IsRising, IsBelow, AreRows, RowList}
use Rattle.pfl_edits.specs.inner.Ordered.{IsAbove, StandsIn, IsGap}
use Rattle.pfl_edits.proofs.Sorted.{row_at-gap, row_at-here, rising-without, rising-changed, rising-between}

-- the new rows stand for the map with this under the key, and there is room for them
pub record SetsRow {K X : Type 0} (R : K → K → Ordering) (key : X → K) (limit : ℕ) (rows new : List X) (q : K) (at : Option X) : Type 0 where
  pub map : map_of R key new ≡ set_at (map_of R key rows) q at
  pub kept : AreRows R key (record { list = new; limit = limit })

module _ {K X : Type 0} {R : K → K → Ordering} (o : IsTotalOrder R) (exact : IsAntisymmetric R) (key : X → K)
    (rows : List X) (rising : IsRising R key rows) (q : K) where
  -- what stands under the key is found at its place
  pub former_here : (xs : List X) → xs ≡ rows → (i : ℕ) → StandsIn key xs q i → (x : X) → x ≡ get_or rows i x → Some x ≡ maps.get (map_of R key rows) q
  former_here xs is i place x read =
      let here : StandsIn key rows q i = subst (λ (ys : List X). StandsIn key ys q i) is place in
      ap Some (read ∙ here.at x) ∙ sym (get-map_of o exact key rows q ∙ row_at-here o exact key rows rising q i here)

  -- and at a gap nothing
  pub former_gap : (xs : List X) → xs ≡ rows → (i : ℕ) → IsGap R key xs q i → None ≡ maps.get (map_of R key rows) q
  former_gap xs is i gap = sym (get-map_of o exact key rows q ∙ (ap (λ (ys : List X). row_at R key ys q) (sym is) ∙ row_at-gap o exact key xs q i gap))

  -- `asked` is what the caller knows of the whole value, of which the rows and the limit are the fields
  module _ (limit : ℕ) (whole : RowList X) (fields : record { list = rows; limit = limit } ≡ whole)
      (at : Option X) (keyed : IfSome at (λ x. key x ≡ q)) (asked : maps.len (set_at (map_of R key whole.list) q at) ≤ whole.limit) where
    room : maps.len (set_at (map_of R key rows) q at) ≤ limit
    room = subst (λ (r : RowList X). maps.len (set_at (map_of R key r.list) q at) ≤ r.limit) (sym fields) asked

    rows_set : (new : List X) → IsRising R key new → map_of R key new ≡ set_at (map_of R key rows) q at → SetsRow R key limit rows new q at
    rows_set new r is = record {
      map = is;
      kept = record {
        rising = r;
        few = omega (arith, room, sym (len-map_of o exact key new (Distinct-rising R key new r)) ∙ ap maps.len is);
      };
    }

    its_key : (y : X) → at ≡ Some y → key y ≡ q
    its_key y is = subst (λ (a : Option X). IfSome a (λ x. key x ≡ q)) is keyed

    module _ (xs : List X) (is : xs ≡ rows) (i : ℕ) where
      module _ (place : StandsIn key xs q i) where
        here : StandsIn key rows q i
        here = subst (λ (ys : List X). StandsIn key ys q i) is place

        -- another row under the key
        pub row_changed : (y : X) → at ≡ Some y → SetsRow R key limit rows (set rows i y) q at
        row_changed y at_is =
            let split = set_split rows i y here.within in
            rows_set (set rows i y)
            (subst (IsRising R key) (sym split)
            (rising-changed o exact key (take i rows) here.row y (drop (suc i) rows) (its_key y at_is ∙ sym here.named)
            (subst (IsRising R key) here.split rising)))
            (ap (map_of R key) split
            ∙ (map_with o exact key rows i here.row q here.split here.named (Distinct-rising R key rows rising) y (its_key y at_is)
            ∙ ap (set_at (map_of R key rows) q) (sym at_is)))

        -- the row taken out
        pub row_removed : at ≡ None → (new : List X) → new ≡ remove rows i → SetsRow R key limit rows new q at
        row_removed at_is new left =
            rows_set new
            (subst (IsRising R key) (sym left)
            (rising-without o exact key (take i rows) here.row (drop (suc i) rows) (subst (IsRising R key) here.split rising)))
            (ap (map_of R key) left
            ∙ (map_without o exact key rows i here.row q here.split here.named (Distinct-rising R key rows rising)
            ∙ ap (set_at (map_of R key rows) q) (sym at_is)))

      module _ (place : IsGap R key xs q i) where
        gap : IsGap R key rows q i
        gap = subst (λ (ys : List X). IsGap R key ys q i) is place

        none : row_at R key rows q ≡ None
        none = row_at-gap o exact key rows q i gap

        -- a row more
        pub row_added : (y : X) → at ≡ Some y → (new : List X) → new ≡ insert rows i y → SetsRow R key limit rows new q at
        row_added y at_is new more =
            let same = its_key y at_is in
            let joined = take-append-drop i rows in
            let free : row_at R key (take i rows ++ drop i rows) (key y) ≡ None = ap (λ (ys : List X). row_at R key ys (key y)) joined
            ∙ (ap (row_at R key rows) same ∙ none) in
            rows_set new
            (subst (IsRising R key) (sym more) (rising-between o exact key (take i rows) y (drop i rows)
            (subst (λ (k : K). IsAbove R key k (take i rows)) (sym same) gap.before) (subst (λ (k : K). IsBelow R key k (drop i rows)) (sym same) gap.behind)
            (subst (IsRising R key) (sym joined) rising)))
            (ap (map_of R key) more
            ∙ (map_of-between o exact key (take i rows) y (drop i rows) free
            ∙ (ap (λ (ys : List X). maps.insert (map_of R key ys) (key y) y) joined
            ∙ (ap (λ (k : K). maps.insert (map_of R key rows) k y) same ∙ ap (set_at (map_of R key rows) q) (sym at_is)))))

        -- there is room for it
        pub room_left : (y : X) → at ≡ Some y → length rows < limit
        room_left y at_is =
            let more : maps.len (maps.insert (map_of R key rows) q y) ≤ limit =
            subst (λ (a : Option X). maps.len (set_at (map_of R key rows) q a) ≤ limit) at_is room in
            let grows = len-insert o (map_of R key rows) q y
            ∙ ap (λ (a : Option X). cond (is_some a) (maps.len (map_of R key rows)) (maps.len (map_of R key rows) + 1))
            (get-map_of o exact key rows q ∙ none) in
            omega (arith, grows, more, len-map_of o exact key rows (Distinct-rising R key rows rising))

        -- nothing stood there, and nothing does
        pub row_absent : at ≡ None → map_of R key rows ≡ set_at (map_of R key rows) q at
        row_absent at_is = map_as_it_is o exact key rows q none ∙ ap (set_at (map_of R key rows) q) (sym at_is)
