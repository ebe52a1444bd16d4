-- Names in rising order: those after a cursor are what a search by halves leaves.
use Rattle.std.proofs.Common.{◌≡◌, ◌+◌, ◌-◌, ◌≤◌, ◌<◌, ℕ, zero, suc, Bool, true, false, cond, not, List, [], ◌∷◌, length, take, drop, get_or, filter}
use Rattle.std.proofs.Common.{unwrap_or, refl, sym, ◌∙◌, ap, arith}
use Rattle.std.proofs.lemmas.List.{take_rest}
use Rattle.std.specs.List.{AllWithin}
use Rattle.std.specs.List.Sorted.{IsPartitionedBy, IsPartitionPoint}
use Rattle.std.specs.Ordering.{is_lt}
use Rattle.std.specs.declared.cmp.Ordering.TheVariants.{Less, Equal, Greater}
use Rattle.std.proofs.lemmas.Bool.{not-true, not-false}
use Rattle.pfl_base.specs.declared.state_name.StateName.{StateName}
use Rattle.pfl_base.specs.Lists.{last_of}
use Rattle.pfl_base.specs.Names.{name_cmp}
use Rattle.pfl_base.proofs.ForCallers.{names_total}
use Rattle.pfl_edits.specs.Ordered.{IsBelow, IsRising}
use Rattle.pfl_bulk.specs.Bulk.{names_after, TurnsNeedFewNames}
use Rattle.pfl_bulk.proofs.FirstNames.{turn_names-first, after_turn-first, is_last_turn-first}

-- the last element is that at the last place
pub last_is : {X : Type 0} (xs : List X) (d e : X) → 0 < length xs → get_or xs (length xs - 1) d ≡ unwrap_or (last_of xs) e
last_is [] d e h = absurd (omega arith)
last_is (x ∷ []) d e h = refl
last_is (x ∷ y ∷ ys) d e h =
    let place : length (x ∷ y ∷ ys) - 1 ≡ suc (length (y ∷ ys) - 1) = omega arith in
    ap (λ n. get_or (x ∷ y ∷ ys) n d) place ∙ last_is (y ∷ ys) d e (omega arith)

-- what a filter keeps, where an element passes exactly from place n on
filter_from : {X : Type 0} (q : X → Bool) (xs : List X) (n : ℕ) → AllWithin (λ x. q x ≡ false) xs 0 n
    → AllWithin (λ x. q x ≡ true) xs n (length xs) → n ≤ length xs → filter q xs ≡ drop n xs
filter_from q [] zero fails passes h = refl
filter_from q [] (suc n) fails passes h = absurd (omega arith)
filter_from q (x ∷ xs) zero fails passes h =
    ap (λ b. cond b (x ∷ filter q xs) (filter q xs)) (passes 0 x (omega arith) (omega arith))
    ∙ ap (λ (ys : List _). x ∷ ys)
    (filter_from q xs zero (λ k d a b. absurd (omega arith)) (λ k d a b. passes (suc k) d (omega arith) (omega arith)) (omega arith))
filter_from q (x ∷ xs) (suc n) fails passes h =
    ap (λ b. cond b (x ∷ filter q xs) (filter q xs)) (fails 0 x (omega arith) (omega arith))
    ∙ filter_from q xs n (λ k d a b. fails (suc k) d (omega arith) (omega arith)) (λ k d a b. passes (suc k) d (omega arith) (omega arith)) (omega arith)

module _ (cursor : StateName) where
  -- a name before one that is not after the cursor is not after it
  not_after : (a b : StateName) → name_cmp a b ≡ Less → not (is_lt (name_cmp cursor b)) ≡ true → not (is_lt (name_cmp cursor a)) ≡ true
  not_after a b less h =
      elim (name_cmp cursor a) as (λ r. name_cmp cursor a ≡ r → not (is_lt r) ≡ true) [
        | Less ↦ λ e. let before : name_cmp cursor b ≡ Less = names_total.trans cursor a b e less in absurd (cc (ap (λ r. not (is_lt r)) before))
        | Equal ↦ λ e. refl
        | Greater ↦ λ e. refl
      ] refl

  below_at : (q : StateName) (xs : List StateName) (i : ℕ) (d : StateName) → IsBelow name_cmp (λ n. n) q xs → i < length xs → name_cmp q (get_or xs i d) ≡ Less
  below_at q [] i d b h = absurd (omega arith)
  below_at q (x ∷ xs) zero d b h = b.0
  below_at q (x ∷ xs) (suc i) d b h = below_at q xs i d b.1 (omega arith)

  -- names that rise are parted by the cursor
  pub parted : (xs : List StateName) → IsRising name_cmp (λ n. n) xs → IsPartitionedBy (λ n. not (is_lt (name_cmp cursor n))) xs
  parted [] r i j d le lt h = absurd (omega arith)
  parted (x ∷ xs) r zero zero d le lt h = h
  parted (x ∷ xs) r zero (suc j) d le lt h = not_after x (get_or xs j d) (below_at x xs j d r.0 (omega arith)) h
  parted (x ∷ xs) r (suc i) zero d le lt h = absurd (omega arith)
  parted (x ∷ xs) r (suc i) (suc j) d le lt h = parted xs r.1 i j d (omega arith) (omega arith) h

  -- those from the point on are those after the cursor
  pub after_point : (xs : List StateName) (n : ℕ) → n ≤ length xs
      → IsPartitionPoint (λ y. not (is_lt (name_cmp cursor y)) ≡ true) (λ y. not (is_lt (name_cmp cursor y)) ≡ false) xs n
      → take (length xs - n) (drop n xs) ≡ names_after cursor xs
  after_point xs n h point =
      take_rest xs n ∙ sym (filter_from (λ y. is_lt (name_cmp cursor y)) xs n (λ k d a b. not-true _ (point.0 k d a b))
      (λ k d a b. not-false _ (point.1 k d a b)) h)

pub turns_need_few_names : TurnsNeedFewNames
turns_need_few_names s all batch = record {
  names = turn_names-first s all (batch + 1) batch (omega arith);
  server_after = after_turn-first s all (batch + 1) batch (omega arith);
  last = is_last_turn-first s all (batch + 1) batch (omega arith);
}
