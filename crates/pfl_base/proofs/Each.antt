-- What holds of each element of a list, by recursion on the list.
use Rattle.std.specs.Prelude.{◌<◌, ◌++◌, ℕ, Bool, true, false, List, [], ◌∷◌, filter, take, drop, map, length, get_or, if◌then◌else◌}
use Rattle.std.specs.List.{AllByRecursion}
use Rattle.std.proofs.lemmas.List.Elements.{All-append, All-drop, All-filter, All-from_recursion, All-get_or, All-map, All-take, All-weaker}
use Rattle.std.proofs.lemmas.List.Elements.{recursion_from_All}
use Rattle.pfl_base.specs.Lists.{in_order, put_before}

module _ {X : Type 0} (P : X → Type 0) where
  pub each-get_or : (xs : List X) (i : ℕ) (d : X) → AllByRecursion P xs → i < length xs → P (get_or xs i d)
  each-get_or xs i d each within = All-get_or P xs i d within (All-from_recursion P xs each)

  pub each-filter : (p : X → Bool) (xs : List X) → AllByRecursion P xs → AllByRecursion P (filter p xs)
  each-filter p xs each = recursion_from_All P (filter p xs) (All-filter p P xs (All-from_recursion P xs each))

  pub each-take : (n : ℕ) (xs : List X) → AllByRecursion P xs → AllByRecursion P (take n xs)
  each-take n xs each = recursion_from_All P (take n xs) (All-take P n xs (All-from_recursion P xs each))

  pub each-drop : (n : ℕ) (xs : List X) → AllByRecursion P xs → AllByRecursion P (drop n xs)
  each-drop n xs each = recursion_from_All P (drop n xs) (All-drop P n xs (All-from_recursion P xs each))

  pub each-append : (xs ys : List X) → AllByRecursion P xs → AllByRecursion P ys → AllByRecursion P (xs ++ ys)
  each-append xs ys each other = recursion_from_All P (xs ++ ys) (All-append P xs ys (All-from_recursion P xs each) (All-from_recursion P ys other))

  pub each-map : {Y : Type 0} (f : Y → X) (ys : List Y) → AllByRecursion (λ y. P (f y)) ys → AllByRecursion P (map f ys)
  each-map f ys each = recursion_from_All P (map f ys) (All-map P f ys (All-from_recursion (λ y. P (f y)) ys each))

  pub each-weaker : (Q : X → Type 0) → ((x : X) → P x → Q x) → (xs : List X) → AllByRecursion P xs → AllByRecursion Q xs
  each-weaker Q so xs each = recursion_from_All Q xs (All-weaker P Q so xs (All-from_recursion P xs each))

  pub each-put_before : (before : X → X → Bool) (x : X) (xs : List X) → P x → AllByRecursion P xs → AllByRecursion P (put_before before x xs)
  each-put_before before x [] is each = (is, tt)
  each-put_before before x (y ∷ ys) is each =
      elim (before x y) as (λ b. AllByRecursion P (if b then x ∷ y ∷ ys else y ∷ put_before before x ys)) [
        | true ↦ (is, each)
        | false ↦ (each.0, each-put_before before x ys is each.1)
      ]

  pub each-in_order : (before : X → X → Bool) (xs : List X) → AllByRecursion P xs → AllByRecursion P (in_order before xs)
  each-in_order before [] each = tt
  each-in_order before (x ∷ xs) each = each-put_before before x (in_order before xs) each.0 (each-in_order before xs each.1)
