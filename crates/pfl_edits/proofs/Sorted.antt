-- Rows in the order of their keys: the search for a key, and what a row set, added or removed keeps.
use Rattle.std.proofs.Common.{◌≡◌, ◌+◌, ◌-◌, ◌<◌, ℕ, zero, suc, true, false, cond, List, [], ◌∷◌, ◌++◌, length, take, drop, get_or, Some, None}
use Rattle.std.proofs.Common.{filter, refl, sym, ◌∙◌, ap, subst, arith, add-one, drop-cons}
use Rattle.std.proofs.lemmas.List.{take-append-drop, get_or_default, length-drop}
use Rattle.std.proofs.Math.Seq.{take-length}
use Rattle.std.proofs.lemmas.List.Elements.{filter-append}
use Rattle.std.specs.declared.cmp.Ordering.{Ordering}
use Rattle.std.specs.declared.cmp.Ordering.TheVariants.{Less, Equal, Greater}
use Rattle.std.specs.Ordering.{eq_by_cmp, is_eq, is_lt, ordering_reverse}
use Rattle.std.specs.Cmp.{IsTotalOrder, eq_by_cmp_equiv}
use Rattle.std.specs.FinMap.{IsAntisymmetric}
use Rattle.pfl_edits.proofs.Places.{equal_is}
use Rattle.pfl_edits.proofs.RowMaps.{row_at, row_at-below}
use Rattle.pfl_edits.specs.Ordered.{IsBelow, IsRising}
use Rattle.pfl_edits.specs.inner.Ordered.{IsAbove, StandsIn, IsGap}

module _ {K X : Type 0} {R : K → K → Ordering} (o : IsTotalOrder R) (exact : IsAntisymmetric R) (key : X → K) where
  above_is : (q k : K) → R k q ≡ Less → R q k ≡ Greater
  above_is q k h = o.antisymm q k ∙ ap ordering_reverse h

  not_equal_above : (q k : K) → R k q ≡ Less → eq_by_cmp R q k ≡ false
  not_equal_above q k h = ap is_eq (above_is q k h)

  -- a key below a key that is below all is below all
  below_through : (p q : K) (xs : List X) → R p q ≡ Less → IsBelow R key q xs → IsBelow R key p xs
  below_through p q [] h b = tt
  below_through p q (x ∷ xs) h b = (o.trans p q (key x) h b.0, below_through p q xs h b.1)

  below_at : (q : K) (xs : List X) (i : ℕ) (d : X) → IsBelow R key q xs → i < length xs → R q (key (get_or xs i d)) ≡ Less
  below_at q [] i d b h = absurd (omega arith)
  below_at q (x ∷ xs) zero d b h = b.0
  below_at q (x ∷ xs) (suc i) d b h = below_at q xs i d b.1 (omega arith)

  -- where a row is below a key, so are those before it
  pub above_through : (q : K) (xs : List X) (i : ℕ) (d : X) → IsRising R key xs → i < length xs → R (key (get_or xs i d)) q ≡ Less
      → IsAbove R key q (take (suc i) xs)
  above_through q [] i d r h l = absurd (omega arith)
  above_through q (x ∷ xs) zero d r h l = (l, tt)
  above_through q (x ∷ xs) (suc i) d r h l =
      (o.trans (key x) (key (get_or xs i d)) q (below_at (key x) xs i d r.0 (omega arith)) l, above_through q xs i d r.1 (omega arith) l)

  -- where a row is above a key, so are those after it
  pub below_from : (q : K) (xs : List X) (i : ℕ) (d : X) → IsRising R key xs → i < length xs → R q (key (get_or xs i d)) ≡ Less → IsBelow R key q (drop i xs)
  below_from q [] i d r h l = absurd (omega arith)
  below_from q (x ∷ xs) zero d r h l = (l, below_through q (key x) xs l r.0)
  below_from q (x ∷ xs) (suc i) d r h l = below_from q xs i d r.1 (omega arith) l

  -- rows below a key have no part in the search for it
  pub row_at-above : (q : K) (front rest : List X) → IsAbove R key q front → row_at R key (front ++ rest) q ≡ row_at R key rest q
  row_at-above q [] rest a = refl
  row_at-above q (x ∷ front) rest a =
      ap (λ t. cond t (Some x) (row_at R key (front ++ rest) q)) (not_equal_above q (key x) a.0) ∙ row_at-above q front rest a.1

  -- no row has the key of a gap
  pub row_at-gap : (rows : List X) (q : K) (i : ℕ) → IsGap R key rows q i → row_at R key rows q ≡ None
  row_at-gap rows q i gap =
      ap (λ (ys : List X). row_at R key ys q) (sym (take-append-drop i rows))
      ∙ (row_at-above q (take i rows) (drop i rows) gap.before ∙ row_at-below R key q (drop i rows) gap.behind)

  below-without : (q : K) (front : List X) (x : X) (rest : List X) → IsBelow R key q (front ++ x ∷ rest) → IsBelow R key q (front ++ rest)
  below-without q [] x rest b = b.1
  below-without q (y ∷ front) x rest b = (b.0, below-without q front x rest b.1)

  below-with : (q : K) (front : List X) (x : X) (rest : List X) → IsBelow R key q (front ++ rest) → R q (key x) ≡ Less → IsBelow R key q (front ++ x ∷ rest)
  below-with q [] x rest b l = (l, b)
  below-with q (y ∷ front) x rest b l = (b.0, below-with q front x rest b.1 l)

  below-row : (q : K) (front : List X) (x : X) (rest : List X) → IsBelow R key q (front ++ x ∷ rest) → R q (key x) ≡ Less
  below-row q [] x rest b = b.0
  below-row q (y ∷ front) x rest b = below-row q front x rest b.1

  -- a row less
  pub rising-without : (front : List X) (x : X) (rest : List X) → IsRising R key (front ++ x ∷ rest) → IsRising R key (front ++ rest)
  rising-without [] x rest r = r.1
  rising-without (y ∷ front) x rest r = (below-without (key y) front x rest r.0, rising-without front x rest r.1)

  -- another row under the same key
  pub rising-changed : (front : List X) (x y : X) (rest : List X) → key y ≡ key x → IsRising R key (front ++ x ∷ rest) → IsRising R key (front ++ y ∷ rest)
  rising-changed [] x y rest same r = (subst (λ (k : K). IsBelow R key k rest) (sym same) r.0, r.1)
  rising-changed (z ∷ front) x y rest same r = (
    below-with (key z) front y rest (below-without (key z) front x rest r.0) (ap (R (key z)) same ∙ below-row (key z) front x rest r.0),
    rising-changed front x y rest same r.1,
  )

  -- a row more, between those below its key and those above
  pub rising-between : (front : List X) (y : X) (rest : List X) → IsAbove R key (key y) front → IsBelow R key (key y) rest
      → IsRising R key (front ++ rest) → IsRising R key (front ++ y ∷ rest)
  rising-between [] y rest a b r = (b, r)
  rising-between (z ∷ front) y rest a b r = (below-with (key z) front y rest r.0 a.0, rising-between front y rest a.1 b r.1)

  none_above : (q : K) (xs : List X) → IsAbove R key q xs → filter (λ x. is_lt (R q (key x))) xs ≡ []
  none_above q [] a = refl
  none_above q (x ∷ xs) a = ap (λ t. cond t (x ∷ filter (λ x. is_lt (R q (key x))) xs) (filter (λ x. is_lt (R q (key x))) xs))
      (ap is_lt (above_is q (key x) a.0)) ∙ none_above q xs a.1

  all_below : (q : K) (xs : List X) → IsBelow R key q xs → filter (λ x. is_lt (R q (key x))) xs ≡ xs
  all_below q [] b = refl
  all_below q (x ∷ xs) b = ap (λ t. cond t (x ∷ filter (λ x. is_lt (R q (key x))) xs) (filter (λ x. is_lt (R q (key x))) xs))
      (ap is_lt b.0) ∙ ap (λ (ys : List X). x ∷ ys) (all_below q xs b.1)

  -- What one comparison in the search for the key q shows. The row x stands at place i, and its key is k.
  module _ (rows : List X) (rising : IsRising R key rows) (i : ℕ) (within : i < length rows) (x : X) (is : x ≡ get_or rows i x) (q k : K)
      (named : k ≡ key x) where
    its_key : key (get_or rows i x) ≡ k
    its_key = sym (named ∙ ap key is)

    -- the rows up to here are below the key
    pub search_behind : Less ≡ R k q → IsAbove R key q (take (i + 1) rows)
    search_behind l = rw add-one (above_through q rows i x rising within (ap (λ p. R p q) its_key ∙ sym l))

    -- the rows from here on are above the key
    pub search_before : Greater ≡ R k q → IsBelow R key q (drop i rows)
    search_before l = below_from q rows i x rising within (ap (R q) its_key ∙ (o.antisymm q k ∙ ap ordering_reverse (sym l)))

    -- here it stands
    pub search_here : Equal ≡ R k q → StandsIn key rows q i
    search_here l = record {
      row = x;
      split = sym (take-append-drop i rows)
          ∙ (ap (λ (rest : List X). take i rows ++ rest) (drop-cons rows i x within) ∙ ap (λ (y : X). take i rows ++ y ∷ drop (suc i) rows) (sym is));
      within = within;
      at = λ e. get_or_default rows i e x within ∙ sym is;
      named = sym named ∙ exact k q (sym l);
    }

  -- what stands under a key where a row does
  pub row_at-here : (rows : List X) (rising : IsRising R key rows) (q : K) (i : ℕ) (s : StandsIn key rows q i) → row_at R key rows q ≡ Some s.row
  row_at-here rows rising q i s =
      let above : IsAbove R key q (take i rows) =
      subst (λ (k : K). IsAbove R key k (take i rows)) s.named
      (above_front (take i rows) s.row (drop (suc i) rows) (subst (IsRising R key) s.split rising)) in
      ap (λ (ys : List X). row_at R key ys q) s.split
      ∙ (row_at-above q (take i rows) (s.row ∷ drop (suc i) rows) above
      ∙ ap (λ t. cond t (Some s.row) (row_at R key (drop (suc i) rows) q)) (ap (eq_by_cmp R q) s.named ∙ (eq_by_cmp_equiv o).refl q))
    where
      above_front : (front : List X) (y : X) (rest : List X) → IsRising R key (front ++ y ∷ rest) → IsAbove R key (key y) front
      above_front [] y rest r = tt
      above_front (z ∷ front) y rest r = (below-row (key z) front y rest r.0, above_front front y rest r.1)

  -- the rows above a key, where a row has it
  pub filter-here : (rows : List X) (rising : IsRising R key rows) (q : K) (i : ℕ) (s : StandsIn key rows q i)
      → filter (λ x. is_lt (R q (key x))) rows ≡ drop (i + 1) rows
  filter-here rows rising q i s =
      let parts : IsAbove R key (key s.row) (take i rows) × IsBelow R key (key s.row) (drop (suc i) rows) =
      sides (take i rows) s.row (drop (suc i) rows) (subst (IsRising R key) s.split rising) in
      ap (filter (λ x. is_lt (R q (key x)))) s.split
      ∙ (filter-append (λ x. is_lt (R q (key x))) (take i rows) (s.row ∷ drop (suc i) rows)
      ∙ (ap (λ (ys : List X). ys ++ filter (λ x. is_lt (R q (key x))) (s.row ∷ drop (suc i) rows))
      (none_above q (take i rows) (subst (λ (k : K). IsAbove R key k (take i rows)) s.named parts.0))
      ∙ (ap (λ t. cond t (s.row ∷ filter (λ x. is_lt (R q (key x))) (drop (suc i) rows)) (filter (λ x. is_lt (R q (key x))) (drop (suc i) rows))) own
      ∙ (all_below q (drop (suc i) rows) (subst (λ (k : K). IsBelow R key k (drop (suc i) rows)) s.named parts.1) ∙ ap (λ n. drop n rows) (sym (add-one i))))))
    where
      sides : (front : List X) (y : X) (rest : List X) → IsRising R key (front ++ y ∷ rest) → IsAbove R key (key y) front × IsBelow R key (key y) rest
      sides [] y rest r = (tt, r.0)
      sides (z ∷ front) y rest r = let more = sides front y rest r.1 in ((below-row (key z) front y rest r.0, more.0), more.1)

      not_less : (r : Ordering) → is_eq r ≡ true → is_lt r ≡ false
      not_less r e = ap is_lt (equal_is r e)

      own : is_lt (R q (key s.row)) ≡ false
      own = ap (λ (k : K). is_lt (R q k)) s.named ∙ not_less (R q q) ((eq_by_cmp_equiv o).refl q)

  -- and where none has it
  pub filter-gap : (rows : List X) (q : K) (i : ℕ) → IsGap R key rows q i → filter (λ x. is_lt (R q (key x))) rows ≡ drop i rows
  filter-gap rows q i gap =
      ap (filter (λ x. is_lt (R q (key x)))) (sym (take-append-drop i rows))
      ∙ (filter-append (λ x. is_lt (R q (key x))) (take i rows) (drop i rows)
      ∙ (ap (λ (ys : List X). ys ++ filter (λ x. is_lt (R q (key x))) (drop i rows)) (none_above q (take i rows) gap.before)
      ∙ all_below q (drop i rows) gap.behind))

  slice_from : (rows : List X) (i : ℕ) → take (length rows - i) (drop i rows) ≡ drop i rows
  slice_from rows i = ap (λ n. take n (drop i rows)) (sym (length-drop i rows)) ∙ take-length (drop i rows)

  -- the slice of the rows after the one with the key are the rows above the key
  pub after_row : (rows : List X) (rising : IsRising R key rows) (q : K) (xs : List X) → xs ≡ rows → (i : ℕ) → StandsIn key xs q i
      → take (length rows - (i + 1)) (drop (i + 1) rows) ≡ filter (λ x. is_lt (R q (key x))) rows
  after_row rows rising q xs is i place = slice_from rows (i + 1) ∙ sym (filter-here rows rising q i (subst (λ (ys : List X). StandsIn key ys q i) is place))

  -- and where no row has the key
  pub after_gap : (rows : List X) (q : K) (xs : List X) → xs ≡ rows → (i : ℕ) → IsGap R key xs q i
      → take (length rows - i) (drop i rows) ≡ filter (λ x. is_lt (R q (key x))) rows
  after_gap rows q xs is i place = slice_from rows i ∙ sym (filter-gap rows q i (subst (λ (ys : List X). IsGap R key ys q i) is place))
