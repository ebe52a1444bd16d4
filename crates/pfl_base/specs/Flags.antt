-- Flags of TCP packets, as bits of a number.
use Rattle.std.specs.Prelude.{ℕ, Bool, ◌==◌, bit_and}

-- the set has this flag, or each flag of this set (RFC 9293, 3.1)
abbrev pub has : ℕ → ℕ → Bool
has flags bit = bit_and flags bit == bit
