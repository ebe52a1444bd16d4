-- Numbers of digits.
use Rattle.std.proofs.Common.{ℕ, ◌+◌, ◌-◌, ◌*◌, ◌≤◌, List, [], ◌∷◌, arith}
use Rattle.pfl_lines.specs.Numbers.{value_after}

-- further digits make a number no smaller
pub value_grows : (digits : List ℕ) (n : ℕ) → n ≤ value_after n digits
value_grows [] n = omega arith
value_grows (b ∷ digits) n = omega (arith, value_grows digits (n * 10 + (b - 48)))
