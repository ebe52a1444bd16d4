-- Numbers of digits.
use Rattle.std.specs.Prelude.{ℕ, ◌+◌, ◌-◌, ◌*◌, Bool, ◌&&◌, ◌==◌, nat_le, List, [], ◌∷◌, ◌++◌, if◌then◌else◌, Result, Ok, Err}
use Rattle.std.specs.List.{list_all}
use Rattle.pfl_lines.specs.declared.fault.LineFault.{LineFault}
use Rattle.pfl_lines.specs.declared.fault.LineFault.TheVariants.{Number}

-- one of 0 to 9
abbrev pub is_digit : ℕ → Bool
is_digit b = nat_le 48 b && nat_le b 57

-- the number that digits write after those of n
abbrev pub value_after : ℕ → List ℕ → ℕ
value_after n [] = n
value_after n (b ∷ digits) = value_after (n * 10 + (b - 48)) digits

-- decimal digits, leading zeros allowed, from 0 to the greatest value (this project's profile)
unfoldable pub number_of : ℕ → List ℕ → Result ℕ LineFault
number_of greatest [] = Err Number
number_of greatest (b ∷ digits) =
    if list_all is_digit (b ∷ digits) && nat_le (value_after 0 (b ∷ digits)) greatest
    then Ok (value_after 0 (b ∷ digits)) else Err Number

-- what stands before the first separator goes onto the front
abbrev pub grown : List ℕ → Result (List ℕ × List ℕ) LineFault → Result (List ℕ × List ℕ) LineFault
grown before (Ok x) = Ok (before ++ x.0, x.1)
grown before (Err e) = Err e

-- what stands before the first separator, and what after it
abbrev pub cut_at : ℕ → List ℕ → Result (List ℕ × List ℕ) LineFault
cut_at separator [] = Err Number
cut_at separator (b ∷ bytes) = if b == separator then Ok ([], bytes) else grown (b ∷ []) (cut_at separator bytes)
