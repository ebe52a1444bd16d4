-- What a search, an insertion and a removal do to a list in order, said of the two sides of one of its entries.
use Rattle.std.proofs.Common.{◌≡◌, ℕ, zero, suc, ◌-◌, ◌+◌, Bool, true, false, cond, not, ◌&&◌, T, List, [], ◌∷◌, ◌++◌, length, length-append, Option}
use Rattle.std.proofs.Common.{Some, None, refl, sym, ap, subst, ◌∙◌, arith}
use Rattle.std.specs.Prelude.{slice_get, filter, find as first_with}
use Rattle.std.specs.declared.cmp.Ordering.{Ordering}
use Rattle.std.specs.declared.cmp.Ordering.TheVariants.{Less, Equal, Greater}
use Rattle.std.specs.Ordering.{is_lt, is_eq, eq_by_cmp, ordering_reverse}
use Rattle.std.specs.Cmp.{IsTotalOrder, tied_itself}
use Rattle.std.specs.FinMap.Entries.{put, find, below_all, is_sorted, by_order}
use Rattle.pfl_containers.specs.inner.Changes.{without}

-- P of each element
abbrev pub Each : {A : Type 0} → (A → Type 0) → List A → Type 0
Each P [] = Unit {0}
Each P (x ∷ xs) = P x × Each P xs

Each-from : {A : Type 0} {P Q : A → Type 0} → ((x : A) → P x → Q x) → (xs : List A) → Each P xs → Each Q xs
Each-from f [] h = tt
Each-from f (x ∷ xs) h = (f x h.0, Each-from f xs h.1)

both : (a b : Bool) → T a → T b → T (a && b)
both true b p q = q
both false b p q = p

first : (a b : Bool) → T (a && b) → T a
first true b p = tt
first false b p = p

second : (a b : Bool) → T (a && b) → T b
second true b p = p
second false b p = absurd p

less : (r : Ordering) → T (is_lt r) → r ≡ Less
less Less p = refl
less Equal p = absurd p
less Greater p = absurd p

lt_less : (r : Ordering) → is_lt r ≡ true → r ≡ Less
lt_less r e = less r (subst T (sym e) tt)

-- the first element that passes a test is among the front ones,
pub first_with-front : {A : Type 0} (test : A → Bool) (xs ys : List A) (x : A) → Some x ≡ first_with test xs → Some x ≡ first_with test (xs ++ ys)
first_with-front test [] ys x is = absurd (cc)
first_with-front test (y ∷ xs) ys x is =
    elim (test y) as (λ b. Some x ≡ cond b (Some y) (first_with test xs) → Some x ≡ cond b (Some y) (first_with test (xs ++ ys))) [
      | true ↦ λ here. here
      | false ↦ λ later. first_with-front test xs ys x later
    ] is

-- or else among the others
pub first_with-behind : {A : Type 0} (test : A → Bool) (xs ys : List A) → None ≡ first_with test xs → first_with test ys ≡ first_with test (xs ++ ys)
first_with-behind test [] ys is = refl
first_with-behind test (y ∷ xs) ys is =
    elim (test y) as (λ b. None ≡ cond b (Some y) (first_with test xs) → first_with test ys ≡ cond b (Some y) (first_with test (xs ++ ys))) [
      | true ↦ λ here. absurd (cc)
      | false ↦ λ later. first_with-behind test xs ys later
    ] is

-- the first of all
pub first-front : {A : Type 0} (xs ys : List A) (x : A) → Some x ≡ slice_get xs 0 → Some x ≡ slice_get (xs ++ ys) 0
first-front [] ys x is = absurd (cc)
first-front (y ∷ xs) ys x is = is

pub first-behind : {A : Type 0} (xs ys : List A) → None ≡ slice_get xs 0 → slice_get ys 0 ≡ slice_get (xs ++ ys) 0
first-behind [] ys is = refl
first-behind (y ∷ xs) ys is = absurd (cc)

slice_get-behind : {A : Type 0} (xs ys : List A) (i n : ℕ) → n ≡ length xs + i → slice_get (xs ++ ys) n ≡ slice_get ys i
slice_get-behind [] ys i n e = let same : n ≡ i = omega (arith, e) in ap (slice_get ys) same
slice_get-behind (x ∷ xs) ys i zero e = absurd (omega (arith, e))
slice_get-behind (x ∷ xs) ys i (suc n) e = slice_get-behind xs ys i n (omega (arith, e))

-- the last of all
pub last-behind : {A : Type 0} (xs : List A) (y : A) (ys : List A) (x : A) → Some x ≡ slice_get ys (length ys - 1)
    → Some x ≡ slice_get (xs ++ y ∷ ys) (length (xs ++ y ∷ ys) - 1)
last-behind xs y [] x is = absurd (cc)
last-behind xs y (z ∷ ys) x is =
    let one_less : suc (length ys) - 1 ≡ length ys = omega arith in
    is ∙ (ap (slice_get (z ∷ ys)) one_less ∙ sym (slice_get-behind xs (y ∷ z ∷ ys) (suc (length ys)) _ (omega (arith, length-append xs (y ∷ z ∷ ys)))))

pub last-here : {A : Type 0} (xs : List A) (y : A) (ys : List A) → None ≡ slice_get ys (length ys - 1)
    → Some y ≡ slice_get (xs ++ y ∷ ys) (length (xs ++ y ∷ ys) - 1)
last-here xs y [] is = sym (slice_get-behind xs (y ∷ []) 0 _ (omega (arith, length-append xs (y ∷ []))))
last-here xs y (z ∷ ys) is = absurd (there ys z (ap (slice_get (z ∷ ys)) one_less) is)
  where
    one_less : suc (length ys) - 1 ≡ length ys
    one_less = omega arith

    end : {A : Type 0} (z : A) (zs : List A) → (x : A) × (slice_get (z ∷ zs) (length zs) ≡ Some x)
    end z [] = (z, refl)
    end z (w ∷ zs) = end w zs

    there : {A : Type 0} (zs : List A) (z : A) {o : Option A} → o ≡ slice_get (z ∷ zs) (length zs) → None ≡ o → ⊥
    there zs z e none = let x = end z zs in let no : None ≡ Some x.0 = none ∙ (e ∙ x.1) in cc

module _ {K X : Type 0} (R : K → K → Ordering) where
  -- the sides of an entry of a list in order
  pub record Sides (ls : List (K × X)) (y : K × X) (rs : List (K × X)) : Type 0 where
    pub left : T (is_sorted R ls)
    pub right : T (is_sorted R rs)
    pub lower : Each (λ e. R e.0 y.0 ≡ Less) ls
    pub upper : Each (λ e. R y.0 e.0 ≡ Less) rs

  below_each : (q : K) (es : List (K × X)) → T (below_all R q es) → Each (λ e. R q e.0 ≡ Less) es
  below_each q [] h = tt
  below_each q (e ∷ es) h = (less _ (first _ _ h), below_each q es (second _ _ h))

  below_front : (q : K) (ls : List (K × X)) (y : K × X) (rs : List (K × X)) → T (below_all R q (ls ++ y ∷ rs)) → T (below_all R q ls) × (R q y.0 ≡ Less)
  below_front q [] y rs h = (tt, less _ (first _ _ h))
  below_front q (e ∷ ls) y rs h = let later = below_front q ls y rs (second _ _ h) in (both _ _ (first _ _ h) later.0, later.1)

  pub sides : (ls : List (K × X)) (y : K × X) (rs : List (K × X)) → T (is_sorted R (ls ++ y ∷ rs)) → Sides ls y rs
  sides [] y rs h = record { left = tt; right = second _ _ h; lower = tt; upper = below_each y.0 rs (first _ _ h) }
  sides (e ∷ ls) y rs h =
      let later = sides ls y rs (second _ _ h) in
      let here = below_front e.0 ls y rs (first _ _ h) in
      record { left = both _ _ here.0 later.left; right = later.right; lower = (here.1, later.lower); upper = later.upper }

  -- what is found on one side, where it is not on the other
  find-front : (q : K) (ls es : List (K × X)) → find R q es ≡ None → find R q (ls ++ es) ≡ find R q ls
  find-front q [] es none = none
  find-front q (e ∷ ls) es none = ap (cond (eq_by_cmp R q e.0) (Some e.1)) (find-front q ls es none)

  find-behind : (q : K) (ls es : List (K × X)) → Each (λ e. R q e.0 ≡ Greater) ls → find R q (ls ++ es) ≡ find R q es
  find-behind q [] es h = refl
  find-behind q (e ∷ ls) es h = ap (λ r. cond (is_eq r) (Some e.1) (find R q (ls ++ es))) h.0 ∙ find-behind q ls es h.1

  find-below : (q : K) (es : List (K × X)) → Each (λ e. R q e.0 ≡ Less) es → find R q es ≡ None
  find-below q [] h = refl
  find-below q (e ∷ es) h = ap (λ r. cond (is_eq r) (Some e.1) (find R q es)) h.0 ∙ find-below q es h.1

  -- an entry goes to its side
  pub put-front : (k : K) (v : X) (ls : List (K × X)) (y : K × X) (rs : List (K × X)) → R k y.0 ≡ Less → put R k v (ls ++ y ∷ rs) ≡ put R k v ls ++ y ∷ rs
  put-front k v [] y rs is = ap (λ r. by_order r ((k, v) ∷ y ∷ rs) ((y.0, v) ∷ rs) (y ∷ put R k v rs)) is
  put-front k v (e ∷ ls) y rs is =
      elim (R k e.0) as (λ r. by_order r ((k, v) ∷ e ∷ (ls ++ y ∷ rs)) ((e.0, v) ∷ (ls ++ y ∷ rs)) (e ∷ put R k v (ls ++ y ∷ rs))
      ≡ by_order r ((k, v) ∷ e ∷ ls) ((e.0, v) ∷ ls) (e ∷ put R k v ls) ++ y ∷ rs) [
        | Less ↦ refl
        | Equal ↦ refl
        | Greater ↦ ap (λ (es : List (K × X)). e ∷ es) (put-front k v ls y rs is)
      ]

  put-past : (k : K) (v : X) (ls es : List (K × X)) → Each (λ e. R k e.0 ≡ Greater) ls → put R k v (ls ++ es) ≡ ls ++ put R k v es
  put-past k v [] es h = refl
  put-past k v (e ∷ ls) es h = ap (λ r. by_order r ((k, v) ∷ e ∷ (ls ++ es)) ((e.0, v) ∷ (ls ++ es)) (e ∷ put R k v (ls ++ es))) h.0
      ∙ ap (λ (fs : List (K × X)). e ∷ fs) (put-past k v ls es h.1)

  without-append : (q : K) (ls es : List (K × X)) → without R q (ls ++ es) ≡ without R q ls ++ without R q es
  without-append q [] es = refl
  without-append q (e ∷ ls) es =
      elim (not (eq_by_cmp R q e.0)) as
      (λ b. cond b (e ∷ without R q (ls ++ es)) (without R q (ls ++ es)) ≡ cond b (e ∷ without R q ls) (without R q ls) ++ without R q es) [
        | true ↦ ap (λ (fs : List (K × X)). e ∷ fs) (without-append q ls es)
        | false ↦ without-append q ls es
      ]

  -- at an entry of another key, or of this one
  without-cons : (q : K) (e : K × X) (es : List (K × X)) (r : Ordering) → R q e.0 ≡ r
      → without R q (e ∷ es) ≡ cond (not (is_eq r)) (e ∷ without R q es) (without R q es)
  without-cons q e es r is = ap (λ s. cond (not (is_eq s)) (e ∷ without R q es) (without R q es)) is

  without-below : (q : K) (es : List (K × X)) → Each (λ e. R q e.0 ≡ Less) es → without R q es ≡ es
  without-below q [] h = refl
  without-below q (e ∷ es) h = without-cons q e es Less h.0 ∙ ap (λ (fs : List (K × X)). e ∷ fs) (without-below q es h.1)

  without-above : (q : K) (es : List (K × X)) → Each (λ e. R q e.0 ≡ Greater) es → without R q es ≡ es
  without-above q [] h = refl
  without-above q (e ∷ es) h = without-cons q e es Greater h.0 ∙ ap (λ (fs : List (K × X)). e ∷ fs) (without-above q es h.1)

  passed_over : (q : K) (es : List (K × X)) → Each (λ e. R q e.0 ≡ Greater) es → None ≡ first_with (λ e. is_lt (R q e.0)) es
  passed_over q [] h = refl
  passed_over q (e ∷ es) h = passed_over q es h.1 ∙ sym (ap (λ r. cond (is_lt r) (Some e) (first_with (λ e. is_lt (R q e.0)) es)) h.0)

-- the key q beside the entry y of a list in order
module _ {K X : Type 0} {R : K → K → Ordering} (o : IsTotalOrder R) (q : K) (ls : List (K × X)) (y : K × X) (rs : List (K × X)) (s : Sides R ls y rs) where
  below_upper : R q y.0 ≡ Less → Each (λ e. R q e.0 ≡ Less) rs
  below_upper is = Each-from (λ e l. o.trans q y.0 e.0 is l) rs s.upper

  tied_upper : R q y.0 ≡ Equal → Each (λ e. R q e.0 ≡ Less) rs
  tied_upper is = Each-from (λ e l. o.congr q y.0 e.0 is ∙ l) rs s.upper

  above_lower : R q y.0 ≡ Greater → Each (λ e. R q e.0 ≡ Greater) ls
  above_lower is = Each-from (λ e l. o.antisymm q e.0 ∙ ap ordering_reverse (o.trans e.0 y.0 q l (o.antisymm y.0 q ∙ ap ordering_reverse is))) ls s.lower

  tied_lower : R q y.0 ≡ Equal → Each (λ e. R q e.0 ≡ Greater) ls
  tied_lower is = Each-from (λ e l. o.congr q y.0 e.0 is ∙ (o.antisymm y.0 e.0 ∙ ap ordering_reverse l)) ls s.lower

  pub find-less : R q y.0 ≡ Less → find R q (ls ++ y ∷ rs) ≡ find R q ls
  find-less is = find-front R q ls (y ∷ rs) (find-below R q (y ∷ rs) (is, below_upper is))

  pub find-equal : R q y.0 ≡ Equal → find R q (ls ++ y ∷ rs) ≡ Some y.1
  find-equal is = find-behind R q ls (y ∷ rs) (tied_lower is) ∙ ap (λ r. cond (is_eq r) (Some y.1) (find R q rs)) is

  pub find-greater : R q y.0 ≡ Greater → find R q (ls ++ y ∷ rs) ≡ find R q rs
  find-greater is = find-behind R q ls (y ∷ rs) (above_lower is) ∙ ap (λ r. cond (is_eq r) (Some y.1) (find R q rs)) is

  pub put-equal : (v : X) → R q y.0 ≡ Equal → put R q v (ls ++ y ∷ rs) ≡ ls ++ (y.0, v) ∷ rs
  put-equal v is = put-past R q v ls (y ∷ rs) (tied_lower is) ∙ ap (λ r. ls ++ by_order r ((q, v) ∷ y ∷ rs) ((y.0, v) ∷ rs) (y ∷ put R q v rs)) is

  pub put-greater : (v : X) → R q y.0 ≡ Greater → put R q v (ls ++ y ∷ rs) ≡ ls ++ y ∷ put R q v rs
  put-greater v is = put-past R q v ls (y ∷ rs) (above_lower is) ∙ ap (λ r. ls ++ by_order r ((q, v) ∷ y ∷ rs) ((y.0, v) ∷ rs) (y ∷ put R q v rs)) is

  pub without-less : R q y.0 ≡ Less → without R q (ls ++ y ∷ rs) ≡ without R q ls ++ y ∷ rs
  without-less is = without-append R q ls (y ∷ rs) ∙ ap (λ (es : List (K × X)). without R q ls ++ es) (without-below R q (y ∷ rs) (is, below_upper is))

  pub without-equal : R q y.0 ≡ Equal → without R q (ls ++ y ∷ rs) ≡ ls ++ rs
  without-equal is =
      without-append R q ls (y ∷ rs)
      ∙ (ap (λ (es : List (K × X)). es ++ without R q (y ∷ rs)) (without-above R q ls (tied_lower is))
      ∙ ap (λ (es : List (K × X)). ls ++ es) (without-cons R q y rs Equal is ∙ without-below R q rs (tied_upper is)))

  pub without-greater : R q y.0 ≡ Greater → without R q (ls ++ y ∷ rs) ≡ ls ++ y ∷ without R q rs
  without-greater is =
      without-append R q ls (y ∷ rs)
      ∙ (ap (λ (es : List (K × X)). es ++ without R q (y ∷ rs)) (without-above R q ls (above_lower is))
      ∙ ap (λ (es : List (K × X)). ls ++ es) (without-cons R q y rs Greater is))

  -- none up to an entry that is not above the key is the next one
  pub next-behind : is_lt (R q y.0) ≡ false → first_with (λ e. is_lt (R q e.0)) rs ≡ first_with (λ e. is_lt (R q e.0)) (ls ++ y ∷ rs)
  next-behind isnt =
      sym (ap (λ b. cond b (Some y) (first_with (λ e. is_lt (R q e.0)) rs)) isnt)
      ∙ first_with-behind _ ls (y ∷ rs) (passed_over R q ls (
      elim (R q y.0) as (λ r. R q y.0 ≡ r → is_lt r ≡ false → Each (λ e. R q e.0 ≡ Greater) ls) [
        | Less ↦ λ is less. absurd (cc)
        | Equal ↦ λ is less. tied_lower is
        | Greater ↦ λ is less. above_lower is
      ] refl isnt))

  -- and one that is above it is, if none in front of it is
  pub next-here : is_lt (R q y.0) ≡ true → None ≡ first_with (λ e. is_lt (R q e.0)) ls → Some y ≡ first_with (λ e. is_lt (R q e.0)) (ls ++ y ∷ rs)
  next-here is none = sym (ap (λ b. cond b (Some y) (first_with (λ e. is_lt (R q e.0)) rs)) is) ∙ first_with-behind _ ls (y ∷ rs) none

-- where none passes a test, none is left
pub filter-none : {A : Type 0} (test : A → Bool) (xs : List A) → None ≡ first_with test xs → filter test xs ≡ []
filter-none test [] is = refl
filter-none test (x ∷ xs) is =
    elim (test x) as (λ b. None ≡ cond b (Some x) (first_with test xs) → cond b (x ∷ filter test xs) (filter test xs) ≡ []) [
      | true ↦ λ here. absurd (cc)
      | false ↦ λ later. filter-none test xs later
    ] is

first_is : {A : Type 0} (P : A → Type 0) (test : A → Bool) (es : List A) (e : A) → Each P es → Some e ≡ first_with test es → P e
first_is P test [] e h is = absurd (cc)
first_is P test (x ∷ es) e h is =
    elim (test x) as (λ b. Some e ≡ cond b (Some x) (first_with test es) → P e) [
      | true ↦ λ here. let same : x ≡ e = cc in subst P same h.0
      | false ↦ λ later. first_is P test es e h.1 later
    ] is

module _ {K : Type 0} {R : K → K → Ordering} (o : IsTotalOrder R) where
  own : (q : K) → is_lt (R q q) ≡ false
  own q = ap is_lt (tied_itself o q)

  turned : (p q : K) → R p q ≡ Less → is_lt (R q p) ≡ false
  turned p q is = ap is_lt (o.antisymm q p ∙ ap ordering_reverse is)

module _ {K X : Type 0} {R : K → K → Ordering} (o : IsTotalOrder R) where
  all_above : (q : K) (es : List (K × X)) → Each (λ e. R q e.0 ≡ Less) es → filter (λ e. is_lt (R q e.0)) es ≡ es
  all_above q [] h = refl
  all_above q (e ∷ es) h =
      ap (λ r. cond (is_lt r) (e ∷ filter (λ e. is_lt (R q e.0)) es) (filter (λ e. is_lt (R q e.0)) es)) h.0
      ∙ ap (λ (fs : List (K × X)). e ∷ fs) (all_above q es h.1)

  -- an entry is not above its own key, nor above that of a later one
  not_above : (q : K) (e : K × X) (es : List (K × X)) → is_lt (R q e.0) ≡ false → filter (λ e. is_lt (R q e.0)) (e ∷ es) ≡ filter (λ e. is_lt (R q e.0)) es
  not_above q e es isnt = ap (λ b. cond b (e ∷ filter (λ e. is_lt (R q e.0)) es) (filter (λ e. is_lt (R q e.0)) es)) isnt

  -- in a list in order the entries above a key are the first of them and those above its key,
  pub filter-next : (q : K) (es : List (K × X)) (e : K × X) → T (is_sorted R es) → Some e ≡ first_with (λ x. is_lt (R q x.0)) es
      → filter (λ x. is_lt (R q x.0)) es ≡ e ∷ filter (λ x. is_lt (R e.0 x.0)) es
  filter-next q [] e h is = absurd (cc)
  filter-next q (x ∷ es) e h is =
      let lower = below_each R x.0 es (first _ _ h) in
      elim (is_lt (R q x.0)) as (λ b. is_lt (R q x.0) ≡ b → Some e ≡ cond b (Some x) (first_with (λ x. is_lt (R q x.0)) es)
      → cond b (x ∷ filter (λ x. is_lt (R q x.0)) es) (filter (λ x. is_lt (R q x.0)) es) ≡ e ∷ filter (λ y. is_lt (R e.0 y.0)) (x ∷ es)) [
        | true ↦ λ less here.
            let same : x ≡ e = cc in
            let up = Each-from (λ y l. o.trans q x.0 y.0 (lt_less _ less) l) es lower in
            ap (λ (fs : List (K × X)). x ∷ fs) (all_above q es up)
            ∙ (ap (λ (fs : List (K × X)). x ∷ fs) (sym (all_above x.0 es lower) ∙ sym (not_above x.0 x es (own o x.0)))
            ∙ ap (λ (y : K × X). y ∷ filter (λ z. is_lt (R y.0 z.0)) (x ∷ es)) same)
        | false ↦ λ less later.
            filter-next q es e (second _ _ h) later
            ∙ ap (λ (fs : List (K × X)). e ∷ fs) (sym (not_above e.0 x es (turned o x.0 e.0 (first_is (λ y. R x.0 y.0 ≡ Less) _ es e lower later))))
      ] refl is

  -- and the entries are the first and those above it
  pub filter-first : (es : List (K × X)) (e : K × X) → T (is_sorted R es) → Some e ≡ slice_get es 0 → es ≡ e ∷ filter (λ x. is_lt (R e.0 x.0)) es
  filter-first [] e h is = absurd (cc)
  filter-first (x ∷ es) e h is =
      let same : x ≡ e = cc in
      ap (λ (fs : List (K × X)). x ∷ fs) (sym (all_above x.0 es (below_each R x.0 es (first _ _ h))) ∙ sym (not_above x.0 x es (own o x.0)))
      ∙ ap (λ (y : K × X). y ∷ filter (λ z. is_lt (R y.0 z.0)) (x ∷ es)) same
