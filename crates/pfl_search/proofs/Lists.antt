-- What is found in lists that are made of others.
use Rattle.std.specs.Prelude.{◌≡◌, ◌⊎◌, ℕ, zero, suc, ◌+◌, ◌-◌, ◌<◌, ◌≤◌, Bool, true, false, cond, List, [], ◌∷◌, ◌++◌, length, map, filter, find}
use Rattle.std.specs.Prelude.{drop, Contains, slice_index_or, Option, Some, None, refl}
use Rattle.std.specs.List.{flat_map}
use Rattle.std.specs.Option.{option_map, option_or}
use Rattle.std.proofs.Common.{◌∙◌, ap, sym, subst, inl, inr, arith}
use Rattle.std.proofs.Math.Seq.{drop-append_seam}
use Rattle.std.proofs.lemmas.List.{get_or-append_right, get_or-map, length-append, length-map}
use Rattle.pfl_search.specs.Visits.{one_if, tally}
use Rattle.std.proofs.lemmas.List.Elements.{Contains-append_left, Contains-append_right, Contains-append_cases}

-- ---- one that is found

module _ {X Y : Type 0} (f : X → Y) where
  option_map-cond : (b : Bool) (x : X) (o : Option X) → option_map f (cond b (Some x) o) ≡ cond b (Some (f x)) (option_map f o)
  option_map-cond true x o = refl
  option_map-cond false x o = refl

  pub find-map : (p : Y → Bool) (xs : List X) → find p (map f xs) ≡ option_map f (find (λ x. p (f x)) xs)
  find-map p [] = refl
  find-map p (x ∷ xs) =
      ap (λ (o : Option Y). cond (p (f x)) (Some (f x)) o) (find-map p xs)
      ∙ sym (option_map-cond (p (f x)) x (find (λ y. p (f y)) xs))

  pub option_map-or : (a b : Option X) → option_map f (option_or a b) ≡ option_or (option_map f a) (option_map f b)
  option_map-or None b = refl
  option_map-or (Some x) b = refl

-- ---- what a list has

module _ {X : Type 0} where
  pub nothing_in : (x : X) → Contains [] x → ⊥
  nothing_in x h = let lt = h.1 in omega arith

  front_at : (y : X) (ys : List X) (x : X) (k : ℕ) → k < length (y ∷ ys) → slice_index_or (y ∷ ys) k x ≡ x → (y ≡ x) ⊎ Contains ys x
  front_at y ys x zero lt e = inl e
  front_at y ys x (suc k) lt e = inr (k, omega arith, e)

  -- the first, or a later one
  pub in_cons : (y : X) (ys : List X) (x : X) → Contains (y ∷ ys) x → (y ≡ x) ⊎ Contains ys x
  in_cons y ys x h = front_at y ys x h.0 h.1 h.2

  pub in_front : (y : X) (ys : List X) (x : X) → y ≡ x → Contains (y ∷ ys) x
  in_front y ys x e = (0, omega arith, e)

  pub in_rest : (y : X) (ys : List X) (x : X) → Contains ys x → Contains (y ∷ ys) x
  in_rest y ys x h = let lt = h.1 in (suc h.0, omega arith, h.2)

  -- after the first ones stand the others
  pub in_added : (xs ys zs : List X) (i : ℕ) (x : X) → zs ≡ xs ++ ys → length xs ≤ i → i < length zs → x ≡ slice_index_or zs i x → Contains ys x
  in_added xs ys zs i x all past within is =
      let long : length zs ≡ length xs + length ys = ap length all ∙ length-append xs ys in
      let at : slice_index_or zs i x ≡ slice_index_or ys (i - length xs) x =
      ap (λ (us : List X). slice_index_or us i x) all ∙ get_or-append_right xs ys (length xs) i x refl past in
      (i - length xs, omega arith, sym (is ∙ at))

  pub from_added : (xs ys zs : List X) (n : ℕ) → zs ≡ xs ++ ys → n ≡ length xs → drop n zs ≡ ys
  from_added xs ys zs n all is = rw (all, is) (drop-append_seam xs ys)

module _ {X Y : Type 0} (f : X → Y) where
  pub in_map : (xs : List X) (x : X) → Contains xs x → Contains (map f xs) (f x)
  in_map xs x h = let lt = h.1 in (h.0, omega (arith, length-map xs f), get_or-map f xs h.0 x (f x) lt ∙ ap f h.2)

  pub from_map : (xs : List X) (y : Y) → Contains (map f xs) y → (x : X) × Contains xs x × (f x ≡ y)
  from_map [] y h = absurd (nothing_in y h)
  from_map (x ∷ xs) y h = elim (in_cons (f x) (map f xs) y h) [
    | inl e ↦ (x, in_front x xs x refl, e)
    | inr r ↦ let at = from_map xs y r in (at.0, in_rest x xs at.0 at.1, at.2)
  ]

module _ {X Y : Type 0} (f : X → List Y) where
  pub in_flat_map : (xs : List X) (x : X) (y : Y) → Contains xs x → Contains (f x) y → Contains (flat_map f xs) y
  in_flat_map [] x y h k = absurd (nothing_in x h)
  in_flat_map (z ∷ xs) x y h k = elim (in_cons z xs x h) [
    | inl e ↦ Contains-append_left (f z) (flat_map f xs) y (subst (λ (v : X). Contains (f v) y) (sym e) k)
    | inr r ↦ Contains-append_right (f z) (flat_map f xs) y (in_flat_map xs x y r k)
  ]

  pub from_flat_map : (xs : List X) (y : Y) → Contains (flat_map f xs) y → (x : X) × Contains xs x × Contains (f x) y
  from_flat_map [] y h = absurd (nothing_in y h)
  from_flat_map (z ∷ xs) y h = elim (Contains-append_cases (f z) (flat_map f xs) y h) [
    | inl l ↦ (z, in_front z xs z refl, l)
    | inr r ↦ let at = from_flat_map xs y r in (at.0, in_rest z xs at.0 at.1, at.2)
  ]

module _ {X : Type 0} (p : X → Bool) where
  kept_at : (y : X) (ys : List X) (x : X) (b : Bool) → p y ≡ b → (Contains (filter p ys) x → Contains ys x × (p x ≡ true))
      → Contains (cond b (y ∷ filter p ys) (filter p ys)) x → Contains (y ∷ ys) x × (p x ≡ true)
  kept_at y ys x true at later h = elim (in_cons y (filter p ys) x h) [
    | inl e ↦ (in_front y ys x e, ap p (sym e) ∙ at)
    | inr r ↦ let so = later r in (in_rest y ys x so.0, so.1)
  ]
  kept_at y ys x false at later h = let so = later h in (in_rest y ys x so.0, so.1)

  -- those that pass a test are there, and pass
  pub from_filter : (xs : List X) (x : X) → Contains (filter p xs) x → Contains xs x × (p x ≡ true)
  from_filter [] x h = absurd (nothing_in x h)
  from_filter (y ∷ ys) x h = kept_at y ys x (p y) refl (from_filter ys x) h

  keeps_at : (y : X) (ys : List X) (x : X) (b : Bool) → p y ≡ b → p x ≡ true → (Contains ys x → Contains (filter p ys) x) → Contains (y ∷ ys) x
      → Contains (cond b (y ∷ filter p ys) (filter p ys)) x
  keeps_at y ys x true at pass later h = elim (in_cons y ys x h) [ inl e ↦ in_front y (filter p ys) x e | inr r ↦ in_rest y (filter p ys) x (later r) ]
  keeps_at y ys x false at pass later h = elim (in_cons y ys x h) [ inl e ↦ (let same : p y ≡ p x = ap p e in absurd cc) | inr r ↦ later r ]

  -- and all that do are kept
  pub in_filter : (xs : List X) (x : X) → Contains xs x → p x ≡ true → Contains (filter p xs) x
  in_filter [] x h pass = absurd (nothing_in x h)
  in_filter (y ∷ ys) x h pass = keeps_at y ys x (p y) refl pass (λ k. in_filter ys x k pass) h

  some_at : (y : X) (ys : List X) (x : X) (b : Bool) → p y ≡ b → (find p ys ≡ Some x → Contains ys x × (p x ≡ true))
      → cond b (Some y) (find p ys) ≡ Some x → Contains (y ∷ ys) x × (p x ≡ true)
  some_at y ys x true at later e = let same : y ≡ x = cc in (in_front y ys x same, ap p (sym same) ∙ at)
  some_at y ys x false at later e = let so = later e in (in_rest y ys x so.0, so.1)

  -- what is found is there, and passes
  pub found_in : (xs : List X) (x : X) → find p xs ≡ Some x → Contains xs x × (p x ≡ true)
  found_in [] x e = absurd cc
  found_in (y ∷ ys) x e = some_at y ys x (p y) refl (found_in ys x) e

  none_at : (y : X) (ys : List X) (x : X) (b : Bool) → p y ≡ b → (find p ys ≡ None → Contains ys x → p x ≡ false)
      → cond b (Some y) (find p ys) ≡ None → Contains (y ∷ ys) x → p x ≡ false
  none_at y ys x true at later e h = absurd cc
  none_at y ys x false at later e h = elim (in_cons y ys x h) [ inl same ↦ ap p (sym same) ∙ at | inr r ↦ later e r ]

  -- where none is found, none passes
  pub none_in : (xs : List X) (x : X) → find p xs ≡ None → Contains xs x → p x ≡ false
  none_in [] x e h = absurd (nothing_in x h)
  none_in (y ∷ ys) x e h = none_at y ys x (p y) refl (none_in ys x) e h

-- ---- how many are of a kind

pub tally-map : {X Y : Type 0} (f : X → Y) (k p : Y → Bool) (xs : List X) → tally k p (map f xs) ≡ tally (λ x. k (f x)) (λ x. p (f x)) xs
tally-map f k p [] = refl
tally-map f k p (x ∷ xs) = ap (λ (n : ℕ). one_if (k (f x)) + cond (p (f x)) 0 n) (tally-map f k p xs)

module _ {X : Type 0} (k p : X → Bool) where
  all_counted : (x : X) (xs ys : List X) (one : ℕ) (b : Bool) → (find p xs ≡ None → tally k p (xs ++ ys) ≡ tally k p xs + tally k p ys)
      → cond b (Some x) (find p xs) ≡ None
      → one + cond b 0 (tally k p (xs ++ ys)) ≡ one + cond b 0 (tally k p xs) + tally k p ys
  all_counted x xs ys one true later none = absurd cc
  all_counted x xs ys one false later none = let more = later none in omega arith

  -- where none of the first passes, all of them are counted
  pub tally-none : (xs ys : List X) → find p xs ≡ None → tally k p (xs ++ ys) ≡ tally k p xs + tally k p ys
  tally-none [] ys none = omega arith
  tally-none (x ∷ xs) ys none = all_counted x xs ys (one_if (k x)) (p x) (tally-none xs ys) none

  some_counted : (x : X) (xs ys : List X) (z : X) (one : ℕ) (b : Bool) → (find p xs ≡ Some z → tally k p (xs ++ ys) ≡ tally k p xs)
      → cond b (Some x) (find p xs) ≡ Some z
      → one + cond b 0 (tally k p (xs ++ ys)) ≡ one + cond b 0 (tally k p xs)
  some_counted x xs ys z one true later some = refl
  some_counted x xs ys z one false later some = ap (λ (n : ℕ). one + n) (later some)

  -- where one of the first passes, none after them is counted
  pub tally-some : (xs ys : List X) (z : X) → find p xs ≡ Some z → tally k p (xs ++ ys) ≡ tally k p xs
  tally-some [] ys z some = absurd cc
  tally-some (x ∷ xs) ys z some = some_counted x xs ys z (one_if (k x)) (p x) (tally-some xs ys z) some

  less_counted : (one m n : ℕ) (b : Bool) → m ≤ n → one + cond b 0 m ≤ one + cond b 0 n
  less_counted one m n true later = omega arith
  less_counted one m n false later = omega arith

  -- of more no fewer are counted
  pub tally-more : (xs ys : List X) → tally k p xs ≤ tally k p (xs ++ ys)
  tally-more [] ys = omega arith
  tally-more (x ∷ xs) ys = less_counted (one_if (k x)) (tally k p xs) (tally k p (xs ++ ys)) (p x) (tally-more xs ys)

  fewer_counted : (m n : ℕ) (c b : Bool) → m ≤ n → one_if c + cond b 0 m ≤ 1 + cond b 0 n
  fewer_counted m n true true later = omega arith
  fewer_counted m n true false later = omega arith
  fewer_counted m n false true later = omega arith
  fewer_counted m n false false later = omega arith

  -- no more are of a kind than there are
  pub tally-fewer : (xs : List X) → tally k p xs ≤ tally (λ x. true) p xs
  tally-fewer [] = omega arith
  tally-fewer (x ∷ xs) = fewer_counted (tally k p xs) (tally (λ y. true) p xs) (k x) (p x) (tally-fewer xs)

  none_counted : (n : ℕ) (c b : Bool) → c ≡ false → n ≡ 0 → one_if c + cond b 0 n ≡ 0
  none_counted n true b is none = absurd cc
  none_counted n false true is none = omega arith
  none_counted n false false is none = omega arith

  -- where none is of the kind, none is counted
  pub tally-zero : (xs : List X) → ((x : X) → Contains xs x → k x ≡ false) → tally k p xs ≡ 0
  tally-zero [] none = refl
  tally-zero (x ∷ xs) none =
      none_counted (tally k p xs) (k x) (p x) (none x (in_front x xs x refl)) (tally-zero xs (λ y h. none y (in_rest x xs y h)))

  counts_at : (y : X) (ys : List X) (x : X) (c b : Bool) → k y ≡ c → k x ≡ true → (find p ys ≡ None → Contains ys x → 0 < tally k p ys)
      → cond b (Some y) (find p ys) ≡ None → Contains (y ∷ ys) x → 0 < one_if c + cond b 0 (tally k p ys)
  counts_at y ys x true b at is later none h = omega arith
  counts_at y ys x false true at is later none h = absurd cc
  counts_at y ys x false false at is later none h = elim (in_cons y ys x h) [
    | inl e ↦ (let same : k y ≡ k x = ap k e in absurd cc)
    | inr r ↦ (let some = later none r in omega arith)
  ]

  -- where none passes, one that is of the kind is counted
  pub tally-counts : (xs : List X) (x : X) → find p xs ≡ None → Contains xs x → k x ≡ true → 0 < tally k p xs
  tally-counts [] x none h is = absurd (nothing_in x h)
  tally-counts (y ∷ ys) x none h is = counts_at y ys x (k y) (p y) refl is (λ less there. tally-counts ys x less there is) none h
