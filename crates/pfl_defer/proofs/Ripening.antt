-- Packets whose time has come stand in front, since the list is by age.
use Rattle.std.proofs.Common.{◌≡◌, ◌+◌, ◌≤◌, ℕ, zero, suc, Bool, true, false, cond, List, [], ◌∷◌, length, take, filter, leb, refl, sym, ◌∙◌, ap, subst, arith}
use Rattle.std.proofs.lemmas.Bool.Decides.{nat_tests}
use Rattle.std.proofs.lemmas.Option.{slice_get-get_or}
use Rattle.std.specs.List.{AllWithin}
use Rattle.std.specs.List.Sorted.{IsPartitionedBy, IsPartitionPoint}
use Rattle.pfl_defer.specs.declared.Held.{Held}
use Rattle.pfl_defer.specs.Deferring.{Deferrals, IsDeferrals, due}

-- what a filter keeps, where an element passes exactly before place n
filter_to : {X : Type 0} (p : X → Bool) (xs : List X) (n : ℕ) → AllWithin (λ x. p x ≡ true) xs 0 n
    → AllWithin (λ x. p x ≡ false) xs n (length xs) → n ≤ length xs → take n xs ≡ filter p xs
filter_to p [] zero passes fails h = refl
filter_to p [] (suc n) passes fails h = absurd (omega arith)
filter_to p (x ∷ xs) zero passes fails h =
    filter_to p xs zero (λ k d a b. absurd (omega arith)) (λ k d a b. fails (suc k) d (omega arith) (omega arith)) (omega arith)
    ∙ sym (ap (λ b. cond b (x ∷ filter p xs) (filter p xs)) (fails 0 x (omega arith) (omega arith)))
filter_to p (x ∷ xs) (suc n) passes fails h =
    ap (λ (ys : List _). x ∷ ys)
    (filter_to p xs n (λ k d a b. passes (suc k) d (omega arith) (omega arith))
    (λ k d a b. fails (suc k) d (omega arith) (omega arith)) (omega arith))
    ∙ sym (ap (λ b. cond b (x ∷ filter p xs) (filter p xs)) (passes 0 x (omega arith) (omega arith)))

older_too : (a b wait now : ℕ) → a ≤ b → leb (b + wait) now ≡ true → leb (a + wait) now ≡ true
older_too a b wait now h e = grind (arith, nat_tests)

module _ (d : Deferrals) (is : IsDeferrals d) (now wait : ℕ) where
  parted_list : IsPartitionedBy (λ (h : Held). leb (h.held_at + wait) now) d.list
  parted_list i j e le lt t =
      older_too _ _ wait now (is.by_age i j _ _ le (slice_get-get_or d.list i e (omega arith)) (slice_get-get_or d.list j e lt)) t

  -- a packet before one that is due is due
  pub parted : (hs : List Held) → hs ≡ d.list → IsPartitionedBy (λ (h : Held). leb (h.held_at + wait) now) hs
  parted hs same = subst (λ (ks : List Held). IsPartitionedBy (λ (h : Held). leb (h.held_at + wait) now) ks) (sym same) parted_list

  -- those before the point are those that are due
  pub due_point : (hs : List Held) → hs ≡ d.list → (n : ℕ) → n ≤ length hs
      → IsPartitionPoint (λ (h : Held). leb (h.held_at + wait) now ≡ true) (λ (h : Held). leb (h.held_at + wait) now ≡ false) hs n
      → take n hs ≡ due d now wait
  due_point hs same n h point =
      filter_to (λ (k : Held). leb (k.held_at + wait) now) hs n point.0 point.1 h ∙ ap (filter (λ (k : Held). leb (k.held_at + wait) now)) same
