-- Numbers that are written in decimal read back.
use Rattle.std.proofs.Common.{◌≡◌, ℕ, ◌<◌, ◌≤◌, ◌^◌, Bool, true, false, cond, ◌&&◌, List, [], ◌∷◌, ◌++◌, length, refl, ◌∙◌, ap, sym, subst, arith}
use Rattle.std.proofs.Common.{rules, le-leb, leb-true, ne_eqb, eqb-true, zero, suc, inl, inr, eq-or-lt_of_le}
use Rattle.std.specs.Prelude.{Result, Ok, Err, nat_le, not, ◌==◌, if◌then◌else◌}
use Rattle.std.specs.List.{list_all}
use Rattle.std.specs.Fmt.{decimal}
use Rattle.std.proofs.lemmas.Fmt.{digits_decimal, digits_value-decimal, decimal_nonempty}
use Rattle.std.proofs.lemmas.Str.Parse.{IsNumeralModel, numerals_by_fold}
use Rattle.pfl_lines.specs.declared.fault.LineFault.{LineFault}
use Rattle.pfl_lines.specs.declared.fault.LineFault.TheVariants.{Number}
use Rattle.pfl_lines.specs.Numbers.{is_digit, value_after, number_of, cut_at, grown}

own : IsNumeralModel (λ ds. list_all is_digit ds ≡ true) (value_after 0)
own = numerals_by_fold _ (search rules) value_after (search rules)

pub all_digits : (n : ℕ) → n < 2 ^ 64 → list_all is_digit (decimal n) ≡ true
all_digits n h = digits_decimal own n h

-- ---- tests

itself : (n : ℕ) → (n == n) ≡ true
itself n = search rules

pub and-first : (b c : Bool) → (b && c) ≡ true → b ≡ true
and-first true c e = refl
and-first false c e = cc

pub and-second : (b c : Bool) → (b && c) ≡ true → c ≡ true
and-second true c e = e
and-second false c e = cc

pub and-both : (b c : Bool) → b ≡ true → c ≡ true → (b && c) ≡ true
and-both true c e f = f
and-both false c e f = e

-- a weaker test holds, too
pub all_weaker : (p q : ℕ → Bool) → ((b : ℕ) → p b ≡ true → q b ≡ true) → (xs : List ℕ) → list_all p xs ≡ true → list_all q xs ≡ true
all_weaker p q weaker [] all = refl
all_weaker p q weaker (b ∷ xs) all = and-both (q b) (list_all q xs) (weaker b (and-first _ _ all)) (all_weaker p q weaker xs (and-second (p b) _ all))

-- ---- what can be tried for each number below a bound

abbrev pub all_below : (ℕ → Bool) → ℕ → Bool
all_below p zero = true
all_below p (suc n) = p n && all_below p n

pub holds_below : (p : ℕ → Bool) (n k : ℕ) → k < n → all_below p n ≡ true → p k ≡ true
holds_below p zero k h all = absurd (omega arith)
holds_below p (suc n) k h all =
    let near : k ≤ n = omega arith in
    elim (eq-or-lt_of_le near) as (λ _. p k ≡ true) [
      | inl same ↦ subst (λ j. p j ≡ true) (sym same) (and-first _ _ all)
      | inr less ↦ holds_below p n k less (and-second (p n) _ all)
    ]

-- the number is read
abbrev pub is_read : Result ℕ LineFault → ℕ → Bool
is_read (Ok m) n = m == n
is_read (Err e) n = false

pub reads_by : (r : Result ℕ LineFault) (n : ℕ) → is_read r n ≡ true → r ≡ Ok n
reads_by (Ok m) n is = ap (λ v. Ok v) (eqb-true m n is)
reads_by (Err e) n is = cc

-- ---- numbers

-- a choice by two tests that hold
both : {X : Type 0} (b c : Bool) (x y : X) → b ≡ true → c ≡ true → cond (b && c) x y ≡ x
both true true x y e f = refl
both true false x y e f = cc
both false c x y e f = cc

digits_read : (g : ℕ) (ds : List ℕ) → 0 < length ds → list_all is_digit ds ≡ true → value_after 0 ds ≤ g → number_of g ds ≡ Ok (value_after 0 ds)
unfolding number_of
digits_read g [] some all small = absurd (omega arith)
digits_read g (b ∷ ds) some all small =
    both (list_all is_digit (b ∷ ds)) (nat_le (value_after 0 (b ∷ ds)) g) (Ok (value_after 0 (b ∷ ds))) (Err Number) all (le-leb _ _ small)

pub number-reads : (g n : ℕ) → n ≤ g → n < 2 ^ 64 → number_of g (decimal n) ≡ Ok n
number-reads g n small fits =
    let value : value_after 0 (decimal n) ≡ n = digits_value-decimal own n fits in
    digits_read g (decimal n) (decimal_nonempty n fits) (all_digits n fits) (subst (λ v. v ≤ g) (sym value) small)
    ∙ ap (λ v. Ok v) value

-- ---- what stands before a separator

-- none of the bytes is the separator
abbrev pub lacks : ℕ → List ℕ → Bool
lacks separator bytes = list_all (λ b. not (b == separator)) bytes

cut_on : (separator b : ℕ) (xs ys : List ℕ) (t : Bool) → (b == separator) ≡ t → not t ≡ true → cut_at separator (xs ++ separator ∷ ys) ≡ Ok (xs, ys)
    → cut_at separator (b ∷ xs ++ separator ∷ ys) ≡ Ok (b ∷ xs, ys)
cut_on separator b xs ys true is other rest = cc
cut_on separator b xs ys false is other rest =
    ap (λ t. if t then Ok ([], xs ++ separator ∷ ys) else grown (b ∷ []) (cut_at separator (xs ++ separator ∷ ys))) is
    ∙ ap (λ (r : Result (List ℕ × List ℕ) LineFault). grown (b ∷ []) r) rest

pub cut-reads : (separator : ℕ) (xs ys : List ℕ) → lacks separator xs ≡ true → cut_at separator (xs ++ separator ∷ ys) ≡ Ok (xs, ys)
cut-reads separator [] ys none = ap (λ t. if t then Ok ([], ys) else grown (separator ∷ []) (cut_at separator ys)) (itself separator)
cut-reads separator (b ∷ xs) ys none =
    cut_on separator b xs ys (b == separator) refl (and-first _ _ none) (cut-reads separator xs ys (and-second _ _ none))

digit_is : (s b : ℕ) → s < 48 → is_digit b ≡ true → not (b == s) ≡ true
digit_is s b low is = let h : 48 ≤ b = leb-true 48 b (and-first _ _ is) in ap not (ne_eqb b s (λ e. absurd (omega arith)))

pub digit_is_above : (s b : ℕ) → 57 < s → is_digit b ≡ true → not (b == s) ≡ true
digit_is_above s b high is = let h : b ≤ 57 = leb-true b 57 (and-second (nat_le 48 b) _ is) in ap not (ne_eqb b s (λ e. absurd (omega arith)))

-- a number has no byte below its digits, and none above
pub number_lacks : (s n : ℕ) → s < 48 → n < 2 ^ 64 → lacks s (decimal n) ≡ true
number_lacks s n low fits = all_weaker is_digit _ (λ b. digit_is s b low) (decimal n) (all_digits n fits)
