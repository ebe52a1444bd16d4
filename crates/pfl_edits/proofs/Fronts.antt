-- The oldest edits of a tape: of each kind as many as have their turns there.
use Rattle.std.proofs.Common.{◌≡◌, ℕ, ◌+◌, ◌-◌, ◌≤◌, List, ◌++◌, Bool, not, cond, length, take, drop, ap, sym, subst, ◌∙◌, arith, length-take-le}
use Rattle.std.specs.List.{count_by}
use Rattle.std.proofs.Math.Seq.{take-append_seam}
use Rattle.std.proofs.lemmas.List.{take-append-drop}
use Rattle.std.proofs.lemmas.List.Sums.{sum_by-take-drop}
use Rattle.pfl_edits.specs.inner.Tapes.{all_edits, HaveTurns}
use Rattle.pfl_edits.proofs.Turns.{all_edits-append, length-all_edits, marked_or_not}

-- of the turns below the mark n are marked
module _ {S E : Type 0} (turns : List Bool) (small : List S) (large : List E) (h : HaveTurns turns small large)
    (mark : ℕ) (within : mark ≤ length turns) (n : ℕ) (is : n ≡ count_by (λ is_marked. is_marked) (take mark turns)) where
  of_both : n + count_by not (take mark turns) ≡ mark
  of_both = omega (arith, marked_or_not (take mark turns), length-take-le mark turns within, is)

  few_marked : n ≤ length small
  few_marked = omega (arith, h.of_small, is, sum_by-take-drop (λ is_marked. cond is_marked 1 0) turns mark)

  pub few_others : mark - n ≤ length large
  few_others = omega (arith, of_both, h.of_large, sum_by-take-drop (λ is_marked. cond (not is_marked) 1 0) turns mark)

  pub HaveTurns-front : HaveTurns (take mark turns) (take n small) (take (mark - n) large)
  HaveTurns-front = record {
    of_small = length-take-le n small few_marked ∙ is;
    of_large = omega (arith, length-take-le (mark - n) large few_others, of_both);
  }

  pub all_edits-front : (whole : S → E)
      → all_edits whole (take mark turns) (take n small) (take (mark - n) large) ≡ take mark (all_edits whole turns small large)
  all_edits-front whole =
      let front : List E = all_edits whole (take mark turns) (take n small) (take (mark - n) large) in
      let rest : List E = all_edits whole (drop mark turns) (drop n small) (drop (mark - n) large) in
      let long : length front ≡ mark = length-all_edits whole (take mark turns) (take n small) (take (mark - n) large) HaveTurns-front
      ∙ length-take-le mark turns within in
      let both : all_edits whole turns small large ≡ front ++ rest =
      ap (λ (bs : List Bool). all_edits whole bs small large) (sym (take-append-drop mark turns))
      ∙ ap (λ (ss : List S). all_edits whole (take mark turns ++ drop mark turns) ss large) (sym (take-append-drop n small))
      ∙ ap (λ (es : List E). all_edits whole (take mark turns ++ drop mark turns) (take n small ++ drop n small) es) (sym (take-append-drop (mark - n) large))
      ∙ all_edits-append whole (take mark turns) (take n small) (take (mark - n) large) (drop mark turns) (drop n small)
      (drop (mark - n) large) HaveTurns-front in
      sym (ap (take mark) both ∙ ap (λ m. take m (front ++ rest)) (sym long) ∙ take-append_seam front rest)

-- Both levels of a tape below a mark.
module _ {S M E : Type 0} (whole_small : S → E) (whole_middle : M
    → E) (turns : List Bool) (small : List S) (larger_turns : List Bool) (middle : List M) (large : List E)
    (outer : HaveTurns turns small (all_edits whole_middle larger_turns middle large)) (inner : HaveTurns larger_turns middle large)
    (mark : ℕ) (within : mark ≤ length (all_edits whole_small turns small (all_edits whole_middle larger_turns middle large))) where
  abbrev larger : List E
  larger = all_edits whole_middle larger_turns middle large

  in_turns : mark ≤ length turns
  in_turns = omega (arith, within, length-all_edits whole_small turns small larger outer)

  pub turns_below : mark ≡ length (take mark turns)
  turns_below = sym (length-take-le mark turns in_turns)

  -- n of the turns are those of small edits
  module _ (n : ℕ) (of_small : n ≡ count_by (λ is_marked. is_marked) (take mark turns)) where
    in_larger : mark - n ≤ length larger_turns
    in_larger = omega (arith, few_others turns small larger outer mark in_turns n of_small, length-all_edits whole_middle larger_turns middle large inner)

    pub larger_turns_below : mark - n ≡ length (take (mark - n) larger_turns)
    larger_turns_below = sym (length-take-le (mark - n) larger_turns in_larger)

    -- and i of the larger ones' those of middle size
    module _ (i : ℕ) (of_middle : i ≡ count_by (λ is_marked. is_marked) (take (mark - n) larger_turns)) where
      pub large_below : mark - n - i ≡ length (take (mark - n - i) large)
      large_below = sym (length-take-le (mark - n - i) large (few_others larger_turns middle large inner (mark - n) in_larger i of_middle))

      larger_front : all_edits whole_middle (take (mark - n) larger_turns) (take i middle) (take (mark - n - i) large) ≡ take (mark - n) larger
      larger_front = all_edits-front larger_turns middle large inner (mark - n) in_larger i of_middle whole_middle

      pub turns_front : HaveTurns (take mark turns) (take n small)
          (all_edits whole_middle (take (mark - n) larger_turns) (take i middle) (take (mark - n - i) large))
          × HaveTurns (take (mark - n) larger_turns) (take i middle) (take (mark - n - i) large)
      turns_front = (
        subst (HaveTurns (take mark turns) (take n small)) (sym larger_front) (HaveTurns-front turns small larger outer mark in_turns n of_small),
        HaveTurns-front larger_turns middle large inner (mark - n) in_larger i of_middle,
      )

      pub edits_front : all_edits whole_small (take mark turns) (take n small)
          (all_edits whole_middle (take (mark - n) larger_turns) (take i middle) (take (mark - n - i) large))
          ≡ take mark (all_edits whole_small turns small (all_edits whole_middle larger_turns middle large))
      edits_front =
          ap (all_edits whole_small (take mark turns) (take n small)) larger_front
          ∙ all_edits-front turns small larger outer mark in_turns n of_small whole_small
