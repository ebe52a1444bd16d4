-- Marks of a tape that is taken back to one of them, and of one on which edits are recorded above the last.
use Rattle.std.specs.Prelude.{◌≡◌, ℕ, ◌+◌, ◌<◌, ◌≤◌, List, [], ◌∷◌, ◌++◌, length, get_or, take}
use Rattle.std.proofs.Common.{inl, inr, sym, ◌∙◌, ap, arith, length-append, length-take-le}
use Rattle.std.proofs.lemmas.List.{take-append-drop, drop-append-le, get_or-take, get_or_default, get_or_past, get_or_append_left, get_or_push}
use Rattle.std.proofs.lemmas.Bool.{cases_lt}
use Rattle.pfl_edits.specs.Tapes.{above, below}
use Rattle.pfl_timeline.specs.Kept.{mark_at}

module _ {E : Type 0} (tape : List E) (marks : List ℕ) where
  -- with all events the mark is the length
  pub mark-past : (k : ℕ) → length marks ≤ k → mark_at tape marks k ≡ length tape
  mark-past k h = get_or_past marks k (length tape) h

-- the mark of p, as it is read
pub mark-read : {E : Type 0} (tape : List E) (marks : List ℕ) (p m d : ℕ) → p < length marks → m ≡ get_or marks p d → m ≡ mark_at tape marks p
mark-read tape marks p m d under is = is ∙ get_or_default marks p d (length tape) under

module _ {E : Type 0} (tape : List E) (marks : List ℕ) (rising : (j k : ℕ) → j ≤ k → mark_at tape marks j ≤ mark_at tape marks k) where
  pub mark-within : (k : ℕ) → mark_at tape marks k ≤ length tape
  mark-within k = omega (arith, rising k (k + length marks) (omega arith), mark-past tape marks (k + length marks) (omega arith))

  -- The tape is taken back to where the first p events stood.
  module _ (p : ℕ) (within : p ≤ length marks) where
    short : length (below (mark_at tape marks p) tape) ≡ mark_at tape marks p
    short = length-take-le (mark_at tape marks p) tape (mark-within p)

    -- no mark is left from p on
    mark-end : (k : ℕ) → p ≤ k → mark_at (below (mark_at tape marks p) tape) (take p marks) k ≡ mark_at tape marks p
    mark-end k h = get_or_past (take p marks) k (length (below (mark_at tape marks p) tape)) (omega (arith, h, length-take-le p marks within)) ∙ short

    -- the marks up to it stay
    pub mark-cut : (k : ℕ) → k ≤ p → mark_at (below (mark_at tape marks p) tape) (take p marks) k ≡ mark_at tape marks k
    mark-cut k h = elim (cases_lt k p) [
      | inl under ↦
          get_or-take p marks k (length (below (mark_at tape marks p) tape)) under
          ∙ get_or_default marks k (length (below (mark_at tape marks p) tape)) (length tape) (omega (arith, under, within))
      | inr over ↦
          let same : p ≡ k = omega (arith, over, h) in
          mark-end k over ∙ ap (mark_at tape marks) same
    ]

    pub rising-cut : (j k : ℕ) → j ≤ k
        → mark_at (below (mark_at tape marks p) tape) (take p marks) j ≤ mark_at (below (mark_at tape marks p) tape) (take p marks) k
    rising-cut j k h = elim (cases_lt k p) [
      | inl under ↦ omega (arith, mark-cut j (omega (arith, h, under)), mark-cut k (omega (arith, under)), rising j k h)
      | inr over ↦ (elim (cases_lt j p) [
        | inl before ↦ omega (arith, mark-cut j (omega (arith, before)), mark-end k over, rising j p (omega (arith, before)))
        | inr behind ↦ omega (arith, mark-end j behind, mark-end k over)
      ])
    ]

    -- what is above a mark under it is there still, but for what is taken back
    pub above-cut : (n : ℕ) → n ≤ mark_at tape marks p → above n tape ≡ above n (below (mark_at tape marks p) tape) ++ above (mark_at tape marks p) tape
    above-cut n h =
        ap (above n) (sym (take-append-drop (mark_at tape marks p) tape))
        ∙ drop-append-le n (below (mark_at tape marks p) tape) (above (mark_at tape marks p) tape) (omega (arith, h, short))

  -- Edits are recorded, and a mark is set below them.
  module _ (more : List E) where
    longer : length (tape ++ more) ≡ length tape + length more
    longer = length-append tape more

    one_more : length (marks ++ length tape ∷ []) ≡ length marks + 1
    one_more = length-append marks (length tape ∷ [])

    -- the marks that stood stay
    pub mark-more : (k : ℕ) → k ≤ length marks → mark_at (tape ++ more) (marks ++ length tape ∷ []) k ≡ mark_at tape marks k
    mark-more k h = elim (cases_lt k (length marks)) [
      | inl under ↦
          get_or_append_left marks (length tape ∷ []) (length (tape ++ more)) k under
          ∙ get_or_default marks k (length (tape ++ more)) (length tape) under
      | inr over ↦
          get_or_push marks (length tape) (length (tape ++ more)) k (omega (arith, over, h))
          ∙ sym (mark-past tape marks k over)
    ]

    pub mark-all : (k : ℕ) → length marks + 1 ≤ k → mark_at (tape ++ more) (marks ++ length tape ∷ []) k ≡ length (tape ++ more)
    mark-all k h = mark-past (tape ++ more) (marks ++ length tape ∷ []) k (omega (arith, h, one_more))

    pub rising-more : (j k : ℕ) → j ≤ k → mark_at (tape ++ more) (marks ++ length tape ∷ []) j ≤ mark_at (tape ++ more) (marks ++ length tape ∷ []) k
    rising-more j k h = elim (cases_lt (length marks) k) [
      | inl all ↦ (elim (cases_lt (length marks) j) [
        | inl both ↦ omega (arith, mark-all j (omega (arith, both)), mark-all k (omega (arith, all)))
        | inr early ↦ omega (arith, mark-more j early, mark-within j, mark-all k (omega (arith, all)), longer)
      ])
      | inr within ↦ omega (arith, mark-more j (omega (arith, h, within)), mark-more k within, rising j k h)
    ]

-- the edits recorded are above every mark
pub above-more : {E : Type 0} (tape more : List E) (n : ℕ) → n ≤ length tape → above n (tape ++ more) ≡ above n tape ++ more
above-more tape more n h = drop-append-le n tape more h
