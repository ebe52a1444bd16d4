-- Numbers as they are read, one digit after another.
use Rattle.std.specs.Prelude.{ℕ, ◌+◌, ◌-◌, ◌*◌, ◌&&◌, nat_le, List, if◌then◌else◌, Result, Ok, Err}
use Rattle.pfl_lines.specs.declared.fault.LineFault.{LineFault}
use Rattle.pfl_lines.specs.declared.fault.LineFault.TheVariants.{Number}
use Rattle.pfl_lines.specs.Numbers.{is_digit, number_of, cut_at}
use Rattle.pfl_lines.specs.Readings.{◌>>=◌}

-- the number with one digit more, up to the greatest
unfoldable pub with_digit : ℕ → ℕ → ℕ → Result ℕ LineFault
with_digit greatest n b = if is_digit b && nat_le (n * 10 + (b - 48)) greatest then Ok (n * 10 + (b - 48)) else Err Number

-- the number that the first separator ends, and what stands after it
unfoldable pub number_before : ℕ → ℕ → List ℕ → Result (ℕ × List ℕ) LineFault
number_before separator greatest bytes = do
  parts ← cut_at separator bytes
  n ← number_of greatest parts.0
  Ok (n, parts.1)
