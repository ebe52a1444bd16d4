-- The first of a list in order: of parts of the list, and by what it is.
use Rattle.std.specs.Prelude.{◌≡◌, ◌⊎◌, Bool, true, false, List, [], ◌∷◌, ◌++◌, Option, Some, None, refl}
use Rattle.std.specs.List.{slice_get}
use Rattle.std.specs.Option.{option_map_or}
use Rattle.std.proofs.Common.{cond, inl, inr, ◌∙◌, ap, sym, subst}
use Rattle.pfl_base.specs.Lists.{in_order}
use Rattle.pfl_edits.proofs.ForCallers.{some_is_none}
use Rattle.pfl_table.proofs.Expiring.{IsBeforeAll, NoneBefore, both_answers, none_through}
use Rattle.pfl_table.proofs.Scanned.{first-put_before}

-- it is one of the list
abbrev pub Has : {X : Type 0} → X → List X → Type 0
Has x [] = ⊥
Has x (y ∷ ys) = (y ≡ x) ⊎ Has x ys

-- the first in order
abbrev pub foremost : {X : Type 0} → (X → X → Bool) → List X → Option X
foremost before xs = slice_get (in_order before xs) 0

-- the first of two, where there are two: the latter unless the former stands before it
abbrev pub joined : {X : Type 0} → (X → X → Bool) → Option X → Option X → Option X
joined before None o = o
joined before (Some x) None = Some x
joined before (Some x) (Some y) = Some (cond (before x y) x y)

pub same_inside : {X : Type 0} (x y : X) → Some x ≡ Some y → x ≡ y
same_inside x y e = cc

module _ {X : Type 0} (before : X → X → Bool) where
  -- a list with one more before it
  pub foremost-more : (x : X) (xs : List X) → foremost before (x ∷ xs) ≡ joined before (Some x) (foremost before xs)
  foremost-more x xs = first-put_before before x (in_order before xs) ∙ same (foremost before xs)
    where
      same : (o : Option X) → Some (option_map_or (λ y. cond (before x y) x y) o x) ≡ joined before (Some x) o
      same None = refl
      same (Some y) = refl

  -- only an empty list has none
  pub foremost-none : (xs : List X) → foremost before xs ≡ None → xs ≡ []
  foremost-none [] e = refl
  foremost-none (x ∷ xs) e = absurd (some_is_none _ (sym (first-put_before before x (in_order before xs)) ∙ e))

  -- the first is one of the list
  pub foremost-has : (xs : List X) (m : X) → foremost before xs ≡ Some m → Has m xs
  foremost-has [] m e = absurd (some_is_none m (sym e))
  foremost-has (x ∷ xs) m e = elim (foremost before xs) as (λ o. foremost before xs ≡ o → joined before (Some x) o ≡ Some m → (x ≡ m) ⊎ Has m xs) [
    | None ↦ λ is s. inl (same_inside x m s)
    | Some y ↦ λ is s. elim (before x y) as (λ b. Some (cond b x y) ≡ Some m → (x ≡ m) ⊎ Has m xs) [
      | true ↦ λ t. inl (same_inside x m t)
      | false ↦ λ t. inr (foremost-has xs m (is ∙ t))
    ] s
  ] refl (sym (foremost-more x xs) ∙ e)

  -- what none of the list stands before
  pub none-has : (m : X) (xs : List X) (x : X) → NoneBefore before m xs → Has x xs → before x m ≡ false
  none-has m [] x none has = absurd has
  none-has m (y ∷ ys) x none has = elim has [
    | inl same ↦ ap (λ z. before z m) (sym same) ∙ none.0
    | inr more ↦ none-has m ys x none.1 more
  ]

  -- In an order (as `IsInOrder-in_order` of Expiring takes it):
  module _ (asymmetric : (x y : X) → before x y ≡ true → before y x ≡ false)
      (passed_on : (x y z : X) → before x y ≡ true → before x z ≡ false → before z y ≡ true) where
    apart : (x : X) → before x x ≡ false
    apart x = elim (before x x) as (λ b. before x x ≡ b → b ≡ false) [
      | true ↦ λ e. sym e ∙ asymmetric x x e
      | false ↦ λ e. refl
    ] refl

    not_through : (x y z : X) → before x y ≡ false → before y z ≡ false → before x z ≡ false
    not_through x y z f g = elim (before x z) as (λ b. before x z ≡ b → b ≡ false) [
      | true ↦ λ e. both_answers (before y z) (passed_on x z y e f) g
      | false ↦ λ e. refl
    ] refl

    one_of_three : (x y z : X)
        → cond (before (cond (before x y) x y) z) (cond (before x y) x y) z ≡ cond (before x (cond (before y z) y z)) x (cond (before y z) y z)
    one_of_three x y z =
        elim (before x y) as (λ b. before x y ≡ b
        → cond (before (cond b x y) z) (cond b x y) z ≡ cond (before x (cond (before y z) y z)) x (cond (before y z) y z)) [
          | true ↦ λ e. elim (before y z) as (λ c. before y z ≡ c → cond (before x z) x z ≡ cond (before x (cond c y z)) x (cond c y z)) [
            | true ↦ λ f. ap (λ b. cond b x z) (passed_on y z x f (asymmetric x y e)) ∙ sym (ap (λ b. cond b x y) e)
            | false ↦ λ f. refl
          ] refl
          | false ↦ λ e. elim (before y z) as (λ c. before y z ≡ c → cond c y z ≡ cond (before x (cond c y z)) x (cond c y z)) [
            | true ↦ λ f. sym (ap (λ b. cond b x y) e)
            | false ↦ λ f. sym (ap (λ b. cond b x z) (not_through x y z e f))
          ] refl
        ] refl

    -- of three it does not matter which two are joined first
    pub joined-twice : (o p q : Option X) → joined before (joined before o p) q ≡ joined before o (joined before p q)
    joined-twice None p q = refl
    joined-twice (Some x) None q = refl
    joined-twice (Some x) (Some y) None = refl
    joined-twice (Some x) (Some y) (Some z) = ap Some (one_of_three x y z)

    foremost-append : (xs ys : List X) → foremost before (xs ++ ys) ≡ joined before (foremost before xs) (foremost before ys)
    foremost-append [] ys = refl
    foremost-append (x ∷ xs) ys =
        foremost-more x (xs ++ ys)
        ∙ (ap (joined before (Some x)) (foremost-append xs ys)
        ∙ (sym (joined-twice (Some x) (foremost before xs) (foremost before ys))
        ∙ ap (λ o. joined before o (foremost before ys)) (sym (foremost-more x xs))))

    leads : (x : X) (ys : List X) → IsBeforeAll before x ys → joined before (Some x) (foremost before ys) ≡ Some x
    leads x [] all = refl
    leads x (y ∷ ys) all =
        ap (joined before (Some x)) (foremost-more y ys)
        ∙ (sym (joined-twice (Some x) (Some y) (foremost before ys))
        ∙ (ap (λ b. joined before (Some (cond b x y)) (foremost before ys)) all.0 ∙ leads x ys all.1))

    -- what follows the first of some elements need not be looked at
    pub foremost-skips : (x : X) (ys zs : List X) → IsBeforeAll before x ys → joined before (Some x) (foremost before zs) ≡ foremost before (x ∷ ys ++ zs)
    foremost-skips x ys zs all =
        ap (λ o. joined before o (foremost before zs)) (sym (foremost-more x ys ∙ leads x ys all))
        ∙ sym (foremost-append (x ∷ ys) zs)

    -- the first of those that were looked at and of those that are left, when one more is looked at
    pub joined-next : (o : Option X) (x : X) (xs all : List X) → joined before o (foremost before (x ∷ xs)) ≡ foremost before all
        → joined before (joined before o (Some x)) (foremost before xs) ≡ foremost before all
    joined-next o x xs all is = joined-twice o (Some x) (foremost before xs) ∙ (ap (joined before o) (sym (foremost-more x xs)) ∙ is)

    -- none of the list stands before the first
    pub foremost-none_before : (xs : List X) (m : X) → foremost before xs ≡ Some m → NoneBefore before m xs
    foremost-none_before [] m e = tt
    foremost-none_before (x ∷ xs) m e = elim (foremost before xs) as (λ o. foremost before xs ≡ o → joined before (Some x) o ≡ Some m
        → NoneBefore before m (x ∷ xs)) [
          | None ↦ λ is s. subst (λ n. NoneBefore before n (x ∷ xs)) (same_inside x m s) (apart x, subst (NoneBefore before x) (sym (foremost-none xs is)) tt)
          | Some y ↦ λ is s. elim (before x y) as (λ b. before x y ≡ b → Some (cond b x y) ≡ Some m → NoneBefore before m (x ∷ xs)) [
            | true ↦ λ f t. subst (λ n. NoneBefore before n (x ∷ xs)) (same_inside x m t)
                (apart x, none_through before asymmetric passed_on x y xs f (foremost-none_before xs y is))
            | false ↦ λ f t. subst (λ n. NoneBefore before n (x ∷ xs)) (same_inside y m t) (f, foremost-none_before xs y is)
          ] refl s
        ] refl (sym (foremost-more x xs) ∙ e)

    -- one of the list that none stands before is the first, if no other one is level with it
    pub first_is : (m : X) (xs : List X) → Has m xs → NoneBefore before m xs
        → ((x : X) → Has x xs → before x m ≡ false → before m x ≡ false → x ≡ m) → foremost before xs ≡ Some m
    first_is m xs has none level = elim (foremost before xs) as (λ o. foremost before xs ≡ o → o ≡ Some m) [
      | None ↦ λ is. absurd (subst (Has m) (foremost-none xs is) has)
      | Some y ↦ λ is.
          let there = foremost-has xs y is in
          ap Some (level y there (none-has m xs y none there) (none-has y xs m (foremost-none_before xs y is) has))
    ] refl
