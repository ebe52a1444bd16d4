-- IPv4 addresses as they are read, one number after another.
use Rattle.std.specs.Prelude.{ℕ, ◌+◌, ◌*◌, List, Result, Ok}
use Rattle.pfl_base.specs.declared.addr.Addr.TheVariants.{V4}
use Rattle.pfl_base.specs.declared.addr.End.{End}
use Rattle.pfl_lines.specs.declared.fault.LineFault.{LineFault}
use Rattle.pfl_lines.specs.Numbers.{number_of}
use Rattle.pfl_lines.specs.Readings.{◌>>=◌}
use Rattle.pfl_lines.specs.inner.Numbers.{number_before}

-- three numbers from 0 to 255, a dot after each, as one number, and what stands after them
unfoldable pub v4_front : List ℕ → Result (ℕ × List ℕ) LineFault
v4_front word = do
  a ← number_before 46 255 word
  b ← number_before 46 255 a.1
  c ← number_before 46 255 b.1
  Ok ((a.0 * 256 + b.0) * 256 + c.0, c.1)

-- an address
unfoldable pub v4_read : List ℕ → Result ℕ LineFault
v4_read word = do
  front ← v4_front word
  d ← number_of 255 front.1
  Ok (front.0 * 256 + d)

-- ADDR:PORT
unfoldable pub v4_end_read : List ℕ → Result End LineFault
v4_end_read word = do
  front ← v4_front word
  d ← number_before 58 255 front.1
  port ← number_of 65535 d.1
  Ok (record { addr = V4 (front.0 * 256 + d.0); port = port })
