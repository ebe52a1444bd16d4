-- Searches of images, and the first of a list in order.
use Rattle.std.proofs.Common.{◌≡◌, ◌+◌, Bool, true, false, cond, List, [], ◌∷◌, map, find, Some, refl}
use Rattle.std.specs.List.{count_by, fold, slice_get}
use Rattle.std.specs.Option.{option_map, option_map_or}
use Rattle.pfl_base.specs.Lists.{put_before}

fold-map : {X Y Z : Type 0} (f : X → Y) (g : Z → Y → Z) (z : Z) (xs : List X) → fold g z (map f xs) ≡ fold (λ a x. g a (f x)) z xs
fold-map f g z [] = refl
fold-map f g z (x ∷ xs) = fold-map f g (g z (f x)) xs

module _ {X Y : Type 0} (f : X → Y) (p : Y → Bool) where
  -- what is found among the images
  pub find-map : (xs : List X) → find p (map f xs) ≡ option_map f (find (λ x. p (f x)) xs)
  find-map [] = refl
  find-map (x ∷ xs) = elim (p (f x)) as (λ b. cond b (Some (f x)) (find p (map f xs)) ≡ option_map f (cond b (Some x) (find (λ y. p (f y)) xs))) [
    | true ↦ refl
    | false ↦ find-map xs
  ]

  -- how many of them pass
  pub count_by-map : (xs : List X) → count_by p (map f xs) ≡ count_by (λ x. p (f x)) xs
  count_by-map xs = fold-map f (λ n y. n + cond (p y) 1 0) 0 xs

-- the first of a list in order is its first element, or the first of the rest, if that does not stand after it
pub first-put_before : {X : Type 0} (before : X → X → Bool) (x : X) (xs : List X)
    → slice_get (put_before before x xs) 0 ≡ Some (option_map_or (λ y. cond (before x y) x y) (slice_get xs 0) x)
first-put_before before x [] = refl
first-put_before before x (y ∷ ys) = elim (before x y) as (λ b. slice_get (cond b (x ∷ y ∷ ys) (y ∷ put_before before x ys)) 0 ≡ Some (cond b x y)) [
  | true ↦ refl
  | false ↦ refl
]
