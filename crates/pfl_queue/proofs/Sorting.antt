-- Sorted marks are the marks in order.
use Rattle.std.proofs.Common.{◌≡◌, ℕ, ◌+◌, Bool, true, false, cond, List, [], ◌∷◌, refl, sym, ◌∙◌, ap, arith}
use Rattle.std.specs.Prelude.{if◌then◌else◌}
use Rattle.std.specs.List.{AllByRecursion, sum_by}
use Rattle.std.specs.Cmp.{IsStrictWeakOrder}
use Rattle.std.proofs.lemmas.List.Sums.{sum_by-cons}
use Rattle.pfl_base.specs.Lists.{put_before, in_order}
use Rattle.pfl_base.proofs.ForCallers.{each-put_before}

module _ {X : Type 0} (before : X → X → Bool) where
  -- none stands before one that comes earlier
  abbrev pub Rises : List X → Type 0
  Rises [] = Unit {0}
  Rises (x ∷ xs) = AllByRecursion (λ y. before y x ≡ false) xs × Rises xs

  count : X → X → ℕ
  count y x = cond (before x y) 1 0

  count-before : (x y : X) → before x y ≡ true → count y x ≡ 1
  unfolding count
  count-before x y is = ap (λ b. cond b 1 0) is

  count-not : (x y : X) → before x y ≡ false → count y x ≡ 0
  unfolding count
  count-not x y is = ap (λ b. cond b 1 0) is

  none_counted : (y : X) (xs : List X) → AllByRecursion (λ x. before x y ≡ false) xs → sum_by (count y) xs ≡ 0
  none_counted y [] all = refl
  none_counted y (x ∷ xs) all = omega (arith, sum_by-cons (count y) x xs, count-not x y all.0, none_counted y xs all.1)

  put-sum : (f : X → ℕ) (x : X) (ys : List X) → sum_by f (put_before before x ys) ≡ f x + sum_by f ys
  put-sum f x [] = sum_by-cons f x []
  put-sum f x (y ∷ ys) =
      elim (before x y) as (λ b. sum_by f (if b then x ∷ y ∷ ys else y ∷ put_before before x ys) ≡ f x + sum_by f (y ∷ ys)) [
        | true ↦ sum_by-cons f x (y ∷ ys)
        | false ↦ omega (arith, sum_by-cons f y (put_before before x ys), put-sum f x ys, sum_by-cons f y ys)
      ]

  pub order-sum : (f : X → ℕ) (xs : List X) → sum_by f (in_order before xs) ≡ sum_by f xs
  order-sum f [] = refl
  order-sum f (x ∷ xs) = omega (arith, put-sum f x (in_order before xs), order-sum f xs, sum_by-cons f x xs)

  module _ (o : IsStrictWeakOrder before) where
    none_before : (x y : X) (zs : List X) → before x y ≡ true → AllByRecursion (λ z. before z y ≡ false) zs → AllByRecursion (λ z. before z x ≡ false) zs
    none_before x y [] is all = tt
    none_before x y (z ∷ zs) is all = (o.chain z y x all.0 (o.one_way x y is), none_before x y zs is all.1)

    put-rises : (x : X) (ys : List X) → Rises ys → Rises (put_before before x ys)
    put-rises x [] r = (tt, tt)
    put-rises x (y ∷ ys) r =
        elim (before x y) as (λ b. before x y ≡ b → Rises (if b then x ∷ y ∷ ys else y ∷ put_before before x ys)) [
          | true ↦ λ is. ((o.one_way x y is, none_before x y ys is r.0), r)
          | false ↦ λ is. (each-put_before (λ z. before z y ≡ false) before x ys is r.0, put-rises x ys r.1)
        ] refl

    pub order-rises : (xs : List X) → Rises (in_order before xs)
    order-rises [] = tt
    order-rises (x ∷ xs) = put-rises x (in_order before xs) (order-rises xs)

    irreflexive : (x : X) → before x x ≡ false
    irreflexive x = elim (before x x) as (λ b. before x x ≡ b → b ≡ false) [
      | true ↦ λ is. sym is ∙ o.one_way x x is
      | false ↦ λ is. refl
    ] refl

    -- lists that rise and have the same elements are one
    module _ (P : X → Type 0) (exact : (x y : X) → P x → P y → before x y ≡ false → before y x ≡ false → x ≡ y) where
      not_before : (x y : X) (xs ys : List X) → AllByRecursion (λ z. before z y ≡ false) ys
          → sum_by (count y) (x ∷ xs) ≡ sum_by (count y) (y ∷ ys) → before x y ≡ false
      not_before x y xs ys all sums = elim (before x y) as (λ b. before x y ≡ b → b ≡ false) [
        | true ↦ λ is. absurd (omega (
          arith,
          sums,
          sum_by-cons (count y) x xs,
          sum_by-cons (count y) y ys,
          count-before x y is,
          count-not y y
              (irreflexive y),
          none_counted y ys all,
        ))
        | false ↦ λ is. refl
      ] refl

      pub same_rising : (xs ys : List X) → Rises xs → Rises ys → AllByRecursion P xs → AllByRecursion P ys → ((f : X → ℕ) → sum_by f xs ≡ sum_by f ys) → xs ≡ ys
      same_rising [] [] r s p q sums = refl
      same_rising [] (y ∷ ys) r s p q sums = absurd (omega (arith, sums (λ _. 1), sum_by-cons (λ _. 1) y ys))
      same_rising (x ∷ xs) [] r s p q sums = absurd (omega (arith, sums (λ _. 1), sum_by-cons (λ _. 1) x xs))
      same_rising (x ∷ xs) (y ∷ ys) r s p q sums =
          let same = exact x y p.0 q.0 (not_before x y xs ys s.0 (sums (count y))) (not_before y x ys xs r.0 (sym (sums (count x)))) in
          let rest = same_rising xs ys r.1 s.1 p.1 q.1 (λ f. omega (arith, sums f, sum_by-cons f x xs, sum_by-cons f y ys, ap f same)) in
          ap (λ z. z ∷ xs) same ∙ ap (λ zs. y ∷ zs) rest
