-- Lists in order, and the elements of them that pass a test: what a purge takes, one after another.
use Rattle.std.specs.Prelude.{◌≡◌, ◌==◌, ◌&&◌, ◌||◌, ℕ, Bool, true, false, nat_lt, List, [], ◌∷◌, filter, refl}
use Rattle.std.specs.declared.cmp.Ordering.{Ordering}
use Rattle.std.specs.declared.cmp.Ordering.TheVariants.{Less, Equal, Greater}
use Rattle.std.specs.Ordering.{is_lt, nat_cmp, on, then_cmp, ordering_then, ordering_reverse}
use Rattle.std.specs.Cmp.{IsTotalOrder, nat_cmp_total}
use Rattle.std.proofs.Common.{cond, T, sym, ◌∙◌, ap, subst}
use Rattle.std.proofs.lemmas.Cmp.{on_total, then_total}
use Rattle.pfl_base.specs.Lists.{in_order, put_before}
use Rattle.pfl_base.specs.Names.{name_cmp}
use Rattle.pfl_base.proofs.ForCallers.{names_total}
use Rattle.pfl_track.specs.declared.state.State.{State}
use Rattle.pfl_table.proofs.Expiries.{state_before}

-- none of the list stands before x
abbrev pub NoneBefore : {X : Type 0} → (X → X → Bool) → X → List X → Type 0
NoneBefore before x [] = Unit {0}
NoneBefore before x (y ∷ ys) = (before y x ≡ false) × NoneBefore before x ys

-- none stands before an earlier one
abbrev pub IsInOrder : {X : Type 0} → (X → X → Bool) → List X → Type 0
IsInOrder before [] = Unit {0}
IsInOrder before (x ∷ xs) = NoneBefore before x xs × IsInOrder before xs

-- x stands before each
abbrev pub IsBeforeAll : {X : Type 0} → (X → X → Bool) → X → List X → Type 0
IsBeforeAll before x [] = Unit {0}
IsBeforeAll before x (y ∷ ys) = (before x y ≡ true) × IsBeforeAll before x ys

true_is_false : {A : Type 0} → true ≡ false → A
true_is_false e = absurd (subst T e tt)

pub both_answers : {A : Type 0} (b : Bool) → b ≡ true → b ≡ false → A
both_answers b t f = true_is_false (sym t ∙ f)

put_first : {X : Type 0} (before : X → X → Bool) (x : X) (ys : List X) → IsBeforeAll before x ys → put_before before x ys ≡ x ∷ ys
put_first before x [] all = refl
put_first before x (y ∷ ys) all = ap (λ b. cond b (x ∷ y ∷ ys) (y ∷ put_before before x ys)) all.0

before-filter : {X : Type 0} (before : X → X → Bool) (p : X → Bool) (x : X) (ys : List X) → IsBeforeAll before x ys → IsBeforeAll before x (filter p ys)
before-filter before p x [] all = tt
before-filter before p x (y ∷ ys) all = elim (p y) as (λ b. IsBeforeAll before x (cond b (y ∷ filter p ys) (filter p ys))) [
  | true ↦ (all.0, before-filter before p x ys all.1)
  | false ↦ before-filter before p x ys all.1
]

-- one that does not pass
put_failing : {X : Type 0} (before : X → X → Bool) (p : X → Bool) (x : X) (ys : List X) → p x ≡ false → filter p (put_before before x ys) ≡ filter p ys
put_failing before p x [] fails = ap (λ b. cond b (x ∷ []) []) fails
put_failing before p x (y ∷ ys) fails = elim (before x y) as (λ b. filter p (cond b (x ∷ y ∷ ys) (y ∷ put_before before x ys)) ≡ filter p (y ∷ ys)) [
  | true ↦ ap (λ b. cond b (x ∷ filter p (y ∷ ys)) (filter p (y ∷ ys))) fails
  | false ↦ ap (λ zs. cond (p y) (y ∷ zs) zs) (put_failing before p x ys fails)
]

-- An order: what stands before another does not stand after it, and what does not stand after the first of two stands before
-- the second.
module _ {X : Type 0} (before : X → X → Bool)
    (asymmetric : (x y : X) → before x y ≡ true → before y x ≡ false)
    (passed_on : (x y z : X) → before x y ≡ true → before x z ≡ false → before z y ≡ true) where
  pub none_through : (x y : X) (zs : List X) → before x y ≡ true → NoneBefore before y zs → NoneBefore before x zs
  none_through x y [] is none = tt
  none_through x y (z ∷ zs) is none = (
    elim (before z x) as (λ b. before z x ≡ b → b ≡ false) [
      | true ↦ λ e. elim (before z y) as (λ c. before z y ≡ c → true ≡ false) [
        | true ↦ λ f. both_answers (before z y) f none.0
        | false ↦ λ f. both_answers (before y x) (passed_on z x y e f) (asymmetric x y is)
      ] refl
      | false ↦ λ e. refl
    ] refl,
    none_through x y zs is none.1,
  )

  all_through : (x y : X) (zs : List X) → before x y ≡ true → NoneBefore before y zs → IsBeforeAll before x zs
  all_through x y [] is none = tt
  all_through x y (z ∷ zs) is none = (
    elim (before x z) as (λ b. before x z ≡ b → b ≡ true) [
      | true ↦ λ e. refl
      | false ↦ λ e. both_answers (before z y) (passed_on x y z is e) none.0
    ] refl,
    all_through x y zs is none.1,
  )

  none-put : (x y : X) (zs : List X) → before y x ≡ false → NoneBefore before x zs → NoneBefore before x (put_before before y zs)
  none-put x y [] is none = (is, tt)
  none-put x y (z ∷ zs) is none = elim (before y z) as (λ b. NoneBefore before x (cond b (y ∷ z ∷ zs) (z ∷ put_before before y zs))) [
    | true ↦ (is, none)
    | false ↦ (none.0, none-put x y zs is none.1)
  ]

  put-in_order : (x : X) (ys : List X) → IsInOrder before ys → IsInOrder before (put_before before x ys)
  put-in_order x [] o = (tt, tt)
  put-in_order x (y ∷ ys) o = elim (before x y) as (λ b. before x y ≡ b → IsInOrder before (cond b (x ∷ y ∷ ys) (y ∷ put_before before x ys))) [
    | true ↦ λ e. ((asymmetric x y e, none_through x y ys e o.0), o)
    | false ↦ λ e. (none-put y x ys e o.0, put-in_order x ys o.1)
  ] refl

  -- elements put in order are in order
  pub IsInOrder-in_order : (xs : List X) → IsInOrder before (in_order before xs)
  IsInOrder-in_order [] = tt
  IsInOrder-in_order (x ∷ xs) = put-in_order x (in_order before xs) (IsInOrder-in_order xs)

  module _ (p : X → Bool) where
    put_passing : (x : X) (ys : List X) → p x ≡ true → IsInOrder before ys → filter p (put_before before x ys) ≡ put_before before x (filter p ys)
    put_passing x [] passes o = ap (λ b. cond b (x ∷ []) []) passes
    put_passing x (y ∷ ys) passes o = elim (before x y) as (λ b. before x y ≡ b
        → filter p (cond b (x ∷ y ∷ ys) (y ∷ put_before before x ys)) ≡ put_before before x (filter p (y ∷ ys))) [
          | true ↦ λ e. ap (λ b. cond b (x ∷ filter p (y ∷ ys)) (filter p (y ∷ ys))) passes
              ∙ sym (put_first before x (filter p (y ∷ ys)) (before-filter before p x (y ∷ ys) (e, all_through x y ys e o.0)))
          | false ↦ λ e. elim (p y) as (λ c. cond c (y ∷ filter p (put_before before x ys)) (filter p (put_before before x ys))
              ≡ put_before before x (cond c (y ∷ filter p ys) (filter p ys))) [
                | true ↦ ap (λ (zs : List X). y ∷ zs) (put_passing x ys passes o.1)
                    ∙ sym (ap (λ b. cond b (x ∷ y ∷ filter p ys) (y ∷ put_before before x (filter p ys))) e)
                | false ↦ put_passing x ys passes o.1
              ]
        ] refl

    -- those that pass, in order, are those of the whole in order that pass
    pub in_order-filter : (xs : List X) → in_order before (filter p xs) ≡ filter p (in_order before xs)
    in_order-filter [] = refl
    in_order-filter (x ∷ xs) = elim (p x) as (λ b. p x ≡ b
        → in_order before (cond b (x ∷ filter p xs) (filter p xs)) ≡ filter p (put_before before x (in_order before xs))) [
          | true ↦ λ e. ap (put_before before x) (in_order-filter xs) ∙ sym (put_passing x (in_order before xs) e (IsInOrder-in_order xs))
          | false ↦ λ e. in_order-filter xs ∙ sym (put_failing before p x (in_order before xs) e)
        ] refl

  -- what is left without the first, in order; `other` is the test that it alone does not pass
  pub rest_in_order : (other : X → Bool) (xs : List X) (x : X) (rest : List X) → in_order before xs ≡ x ∷ rest → other x ≡ false → filter other rest ≡ rest
      → in_order before (filter other xs) ≡ rest
  rest_in_order other xs x rest is out left =
      in_order-filter other xs ∙ (ap (filter other) is ∙ (ap (λ b. cond b (x ∷ filter other rest) (filter other rest)) out ∙ left))

-- an order's answers
less_is : (r : Ordering) → is_lt r ≡ true → r ≡ Less
less_is Less e = refl
less_is Equal e = true_is_false (sym e)
less_is Greater e = true_is_false (sym e)

module _ {X : Type 0} (c : X → X → Ordering) (o : IsTotalOrder c) where
  pub less-asymmetric : (x y : X) → is_lt (c x y) ≡ true → is_lt (c y x) ≡ false
  less-asymmetric x y e = ap is_lt (o.antisymm y x ∙ ap ordering_reverse (less_is (c x y) e))

  pub less-passed_on : (x y z : X) → is_lt (c x y) ≡ true → is_lt (c x z) ≡ false → is_lt (c z y) ≡ true
  less-passed_on x y z e f = elim (c x z) as (λ r. c x z ≡ r → is_lt r ≡ false → is_lt (c z y) ≡ true) [
    | Less ↦ λ is g. true_is_false g
    | Equal ↦ λ is g. ap is_lt (sym (o.congr x z y is)) ∙ e
    | Greater ↦ λ is g. ap is_lt (o.trans z x y (o.antisymm z x ∙ ap ordering_reverse is) (less_is (c x y) e))
  ] refl f

-- the test of a comparison of two parts
pub as_test : (a b : Bool) (r : Ordering) → (a || (b && is_lt r)) ≡ is_lt (ordering_then (cond a Less (cond b Equal Greater)) r)
as_test true b r = refl
as_test false true r = refl
as_test false false r = refl

-- by expiry, then by name, is an order
module _ (expiry : State → ℕ) where
  abbrev by_expiry : State → State → Ordering
  by_expiry = then_cmp (on expiry nat_cmp) (on (λ s. s.name) name_cmp)

  by_expiry_total : IsTotalOrder by_expiry
  by_expiry_total = then_total (on_total expiry nat_cmp_total) (on_total (λ s. s.name) names_total)

  before_is : (s u : State) → state_before expiry s u ≡ is_lt (by_expiry s u)
  before_is s u = as_test (nat_lt (expiry s) (expiry u)) (expiry s == expiry u) (name_cmp s.name u.name)

  -- what stands before another does not stand after it,
  pub state_before-asymmetric : (s u : State) → state_before expiry s u ≡ true → state_before expiry u s ≡ false
  state_before-asymmetric s u e = before_is u s ∙ less-asymmetric by_expiry by_expiry_total s u (sym (before_is s u) ∙ e)

  -- and what does not stand after the first of two stands before the second
  pub state_before-passed_on : (s u v : State) → state_before expiry s u ≡ true → state_before expiry s v ≡ false → state_before expiry v u ≡ true
  state_before-passed_on s u v e f = before_is v u ∙ less-passed_on by_expiry by_expiry_total s u v (sym (before_is s u) ∙ e) (sym (before_is s v) ∙ f)
