-- Numbers that are read one digit after another, up to a separator.
use Rattle.std.proofs.Common.{◌≡◌, ◌∙◌, ℕ, ◌+◌, ◌-◌, ◌*◌, ◌≤◌, ◌<◌, Bool, true, false, ◌&&◌, List, [], ◌∷◌, Result, Ok, Err, refl, sym, ap, arith}
use Rattle.std.proofs.Common.{length, le-leb, eqb-true}
use Rattle.std.specs.Prelude.{nat_le, ◌==◌, if◌then◌else◌}
use Rattle.std.specs.List.{list_all}
use Rattle.std.proofs.lemmas.Bool.{leb-false, lt-leb}
use Rattle.pfl_lines.specs.declared.fault.LineFault.{LineFault}
use Rattle.pfl_lines.specs.declared.fault.LineFault.TheVariants.{Number}
use Rattle.pfl_lines.specs.Numbers.{is_digit, value_after, number_of, cut_at, grown}
use Rattle.pfl_lines.specs.Readings.{◌>>=◌}
use Rattle.pfl_lines.specs.inner.Numbers.{with_digit, number_before}
use Rattle.pfl_lines.proofs.Values.{value_grows}

-- the only fault of a number
abbrev pub IsNumber : {X : Type 0} → Result X LineFault → Type 0
IsNumber (Ok x) = Unit
IsNumber (Err fault) = fault ≡ Number

-- the number that digits write after those of n, up to the greatest
abbrev pub said : ℕ → ℕ → List ℕ → Result ℕ LineFault
said greatest n digits = if list_all is_digit digits && nat_le (value_after n digits) greatest then Ok (value_after n digits) else Err Number

-- the same of the digits before a separator
abbrev pub said_before : ℕ → ℕ → Result (List ℕ × List ℕ) LineFault → Result (ℕ × List ℕ) LineFault
said_before greatest n parts = parts >>= (λ p. said greatest n p.0 >>= (λ v. Ok (v, p.1)))

pub chosen_fault : (b : Bool) (n : ℕ) → IsNumber (if b then Ok n else Err Number)
chosen_fault true n = tt
chosen_fault false n = refl

pub digit_fault : (greatest n b : ℕ) → IsNumber (with_digit greatest n b)
unfolding with_digit
digit_fault greatest n b = chosen_fault (is_digit b && nat_le (n * 10 + (b - 48)) greatest) (n * 10 + (b - 48))

grown_fault : (b : ℕ) (parts : Result (List ℕ × List ℕ) LineFault) → IsNumber parts → IsNumber (grown (b ∷ []) parts)
grown_fault b (Ok p) is = tt
grown_fault b (Err fault) is = is

pub cut_fault : (separator : ℕ) (bytes : List ℕ) → IsNumber (cut_at separator bytes)
cut_fault separator [] = refl
cut_fault separator (b ∷ bytes) =
    elim (b == separator) as (λ t. IsNumber (if t then Ok ([], bytes) else grown (b ∷ []) (cut_at separator bytes))) [
      | true ↦ tt
      | false ↦ grown_fault b (cut_at separator bytes) (cut_fault separator bytes)
    ]

no_more : (b : Bool) (n : ℕ) → (if b && false then Ok n else Err Number) ≡ Err Number
no_more true n = refl
no_more false n = refl

-- a number that is too great stays so
too_great : (greatest n : ℕ) (digits : List ℕ) → nat_le n greatest ≡ false → said greatest n digits ≡ Err Number
too_great greatest n digits above =
    let more : greatest < value_after n digits = omega (arith, leb-false n greatest above, value_grows digits n) in
    rw (lt-leb (value_after n digits) greatest more) (no_more (list_all is_digit digits) (value_after n digits))

up_to : (greatest m : ℕ) (digits : List ℕ) (t : Bool) → nat_le m greatest ≡ t
    → said greatest m digits ≡ ((if t then Ok m else Err Number) >>= (λ k. said greatest k digits))
up_to greatest m digits true is = refl
up_to greatest m digits false is = too_great greatest m digits is

-- the first digit, and then the others
pub said_on : (greatest n b : ℕ) (digits : List ℕ) → said greatest n (b ∷ digits) ≡ (with_digit greatest n b >>= (λ m. said greatest m digits))
unfolding with_digit
said_on greatest n b digits =
    let m : ℕ = n * 10 + (b - 48) in
    elim (is_digit b) as (λ d. (if (d && list_all is_digit digits) && nat_le (value_after m digits) greatest then Ok (value_after m digits) else Err Number)
    ≡ ((if d && nat_le m greatest then Ok m else Err Number) >>= (λ k. said greatest k digits))) [
      | true ↦ up_to greatest m digits (nat_le m greatest) refl
      | false ↦ refl
    ]

pub join : {X Y Z : Type 0} (r : Result X LineFault) (f : X → Result Y LineFault) (g : Y → Result Z LineFault) → ((r >>= f) >>= g) ≡ (r >>= (λ x. f x >>= g))
join (Ok x) f g = refl
join (Err fault) f g = refl

-- what fails at once fails after a number, too
always : {X Y : Type 0} (r : Result X LineFault) (failed : Result Y LineFault) (fault : LineFault) → IsNumber r → failed ≡ Err fault
    → fault ≡ Number → failed ≡ (r >>= (λ x. failed))
always (Ok x) failed fault is e number = refl
always (Err other) failed fault is e number = cc

-- one digit more before a separator
pub before_on : (greatest n b : ℕ) (parts : Result (List ℕ × List ℕ) LineFault) → IsNumber parts
    → said_before greatest n (grown (b ∷ []) parts) ≡ (with_digit greatest n b >>= (λ m. said_before greatest m parts))
before_on greatest n b (Ok p) is =
    ap (λ r. r >>= (λ v. Ok (v, p.1))) (said_on greatest n b p.0) ∙ join (with_digit greatest n b) (λ m. said greatest m p.0) (λ v. Ok (v, p.1))
before_on greatest n b (Err fault) is = always (with_digit greatest n b) (Err fault) fault (digit_fault greatest n b) refl is

-- ---- a digit at a time

pub said_step : (greatest n b m : ℕ) (digits : List ℕ) → Ok m ≡ with_digit greatest n b → said greatest n (b ∷ digits) ≡ said greatest m digits
said_step greatest n b m digits e = said_on greatest n b digits ∙ ap (λ r. r >>= (λ k. said greatest k digits)) (sym e)

pub said_stop : (greatest n b : ℕ) (fault : LineFault) (digits : List ℕ) → Err fault ≡ with_digit greatest n b → said greatest n (b ∷ digits) ≡ Err fault
said_stop greatest n b fault digits e = said_on greatest n b digits ∙ ap (λ r. r >>= (λ k. said greatest k digits)) (sym e)

pub number_said : (greatest : ℕ) (word : List ℕ) (empty : Bool) → empty ≡ (length word == 0) → empty ≡ false → number_of greatest word ≡ said greatest 0 word
unfolding number_of
number_said greatest [] empty is some = cc
number_said greatest (b ∷ word) empty is some = refl

cut_on : (separator b : ℕ) (bytes : List ℕ) → (b == separator) ≡ false → cut_at separator (b ∷ bytes) ≡ grown (b ∷ []) (cut_at separator bytes)
cut_on separator b bytes other = ap (λ t. if t then Ok ([], bytes) else grown (b ∷ []) (cut_at separator bytes)) other

pub before_at : (separator greatest n b : ℕ) (bytes : List ℕ) → (b == separator) ≡ false
    → said_before greatest n (cut_at separator (b ∷ bytes)) ≡ (with_digit greatest n b >>= (λ m. said_before greatest m (cut_at separator bytes)))
before_at separator greatest n b bytes other =
    ap (said_before greatest n) (cut_on separator b bytes other) ∙ before_on greatest n b (cut_at separator bytes) (cut_fault separator bytes)

pub before_step : (separator greatest n b m : ℕ) (bytes : List ℕ) → (b == separator) ≡ false → Ok m ≡ with_digit greatest n b
    → said_before greatest n (cut_at separator (b ∷ bytes)) ≡ said_before greatest m (cut_at separator bytes)
before_step separator greatest n b m bytes other e =
    before_at separator greatest n b bytes other ∙ ap (λ r. r >>= (λ k. said_before greatest k (cut_at separator bytes))) (sym e)

pub before_stop : (separator greatest n b : ℕ) (fault : LineFault) (bytes : List ℕ) → (b == separator) ≡ false → Err fault ≡ with_digit greatest n b
    → said_before greatest n (cut_at separator (b ∷ bytes)) ≡ Err fault
before_stop separator greatest n b fault bytes other e =
    before_at separator greatest n b bytes other ∙ ap (λ r. r >>= (λ k. said_before greatest k (cut_at separator bytes))) (sym e)

pub before_end : (separator greatest n b : ℕ) (bytes : List ℕ) → (b == separator) ≡ true → n ≤ greatest
    → said_before greatest n (cut_at separator (b ∷ bytes)) ≡ Ok (n, bytes)
before_end separator greatest n b bytes same small =
    ap (λ t. said_before greatest n (if t then Ok ([], bytes) else grown (b ∷ []) (cut_at separator bytes))) same
    ∙ ap (λ t. (if t then Ok n else Err Number) >>= (λ v. Ok (v, bytes))) (le-leb n greatest small)

-- ---- the first digit

-- a number of the digits from the first one on
some_before : (greatest b : ℕ) (parts : Result (List ℕ × List ℕ) LineFault)
    → (grown (b ∷ []) parts >>= (λ p. number_of greatest p.0 >>= (λ v. Ok (v, p.1)))) ≡ said_before greatest 0 (grown (b ∷ []) parts)
unfolding number_of
some_before greatest b (Ok p) = refl
some_before greatest b (Err fault) = refl

pub first_other : (separator greatest b : ℕ) (bytes : List ℕ) → (b == separator) ≡ false
    → number_before separator greatest (b ∷ bytes) ≡ (with_digit greatest 0 b >>= (λ m. said_before greatest m (cut_at separator bytes)))
unfolding number_before
first_other separator greatest b bytes other =
    ap (λ parts. parts >>= (λ p. number_of greatest p.0 >>= (λ v. Ok (v, p.1)))) (cut_on separator b bytes other)
    ∙ some_before greatest b (cut_at separator bytes)
    ∙ before_on greatest 0 b (cut_at separator bytes) (cut_fault separator bytes)

pub first_separator : (separator greatest b : ℕ) (bytes : List ℕ) → (b == separator) ≡ true → number_before separator greatest (b ∷ bytes) ≡ Err Number
unfolding number_before number_of
first_separator separator greatest b bytes same =
    ap (λ t. (if t then Ok ([], bytes) else grown (b ∷ []) (cut_at separator bytes)) >>= (λ p. number_of greatest p.0 >>= (λ v. Ok (v, p.1)))) same

pub no_digit : (separator greatest n b : ℕ) → is_digit separator ≡ false → (b == separator) ≡ true → with_digit greatest n b ≡ Err Number
unfolding with_digit
no_digit separator greatest n b other same =
    let e : b ≡ separator = eqb-true b separator same in
    let d : is_digit b ≡ false = ap is_digit e ∙ other in
    ap (λ t. if t && nat_le (n * 10 + (b - 48)) greatest then Ok (n * 10 + (b - 48)) else Err Number) d

-- from the first byte on
pub first_byte : (separator greatest b : ℕ) (bytes : List ℕ) → is_digit separator ≡ false
    → number_before separator greatest (b ∷ bytes) ≡ (with_digit greatest 0 b >>= (λ m. said_before greatest m (cut_at separator bytes)))
first_byte separator greatest b bytes other =
    elim (b == separator) as (λ t. (b == separator) ≡ t
    → number_before separator greatest (b ∷ bytes) ≡ (with_digit greatest 0 b >>= (λ m. said_before greatest m (cut_at separator bytes)))) [
      | true ↦ λ same. first_separator separator greatest b bytes same
          ∙ ap (λ r. r >>= (λ m. said_before greatest m (cut_at separator bytes))) (sym (no_digit separator greatest 0 b other same))
      | false ↦ first_other separator greatest b bytes
    ] refl

pub first_step : (separator greatest b m : ℕ) (bytes : List ℕ) → is_digit separator ≡ false → Ok m ≡ with_digit greatest 0 b
    → number_before separator greatest (b ∷ bytes) ≡ said_before greatest m (cut_at separator bytes)
first_step separator greatest b m bytes other e =
    first_byte separator greatest b bytes other ∙ ap (λ r. r >>= (λ k. said_before greatest k (cut_at separator bytes))) (sym e)

pub first_stop : (separator greatest b : ℕ) (fault : LineFault) (bytes : List ℕ) → is_digit separator ≡ false → Err fault ≡ with_digit greatest 0 b
    → number_before separator greatest (b ∷ bytes) ≡ Err fault
first_stop separator greatest b fault bytes other e =
    first_byte separator greatest b bytes other ∙ ap (λ r. r >>= (λ k. said_before greatest k (cut_at separator bytes))) (sym e)

pub first_none : (separator greatest : ℕ) (word : List ℕ) → length word ≡ 0 → number_before separator greatest word ≡ Err Number
unfolding number_before
first_none separator greatest [] none = refl
first_none separator greatest (b ∷ word) none = absurd (omega arith)
