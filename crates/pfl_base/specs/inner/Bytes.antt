-- Numbers that are kept as bytes: the bytes of a number are those that it was read from.
use Rattle.std.specs.Prelude.{ℕ, ◌≡◌, ◌+◌, ◌*◌, ◌/◌, ◌%◌, ◌^◌, ◌<◌, List, length, get_or, refl}
use Rattle.std.specs.Int.{w32, w64, to_be_bytes, from_be_bytes}
use Rattle.std.proofs.Common.{arith}
use Rattle.std.proofs.lemmas.Nat.{be_bytes_4, be_bytes_8}

-- this many bytes
abbrev pub AreBytes : ℕ → List ℕ → Type 0
AreBytes n bytes = (length bytes ≡ n) × ((i : ℕ) → get_or bytes i 0 < 256)

pub bytes_4_kept : (bytes : List ℕ) → AreBytes 4 bytes → to_be_bytes w32 (from_be_bytes w32 bytes) ≡ bytes
bytes_4_kept bytes h = be_bytes_4 bytes _ h.0 h.1 refl

small_8 : (bytes : List ℕ) → AreBytes 8 bytes → from_be_bytes w64 bytes < 2 ^ 64
small_8 bytes h = omega (arith, h.1 0, h.1 1, h.1 2, h.1 3, h.1 4, h.1 5, h.1 6, h.1 7)

pub high_kept : (high low : List ℕ) → AreBytes 8 high → AreBytes 8 low
    → to_be_bytes w64 ((from_be_bytes w64 high * 2 ^ 64 + from_be_bytes w64 low) / 2 ^ 64) ≡ high
high_kept high low h l = be_bytes_8 high _ h.0 h.1 (omega (arith, small_8 low l))

pub low_kept : (high low : List ℕ) → AreBytes 8 high → AreBytes 8 low
    → to_be_bytes w64 ((from_be_bytes w64 high * 2 ^ 64 + from_be_bytes w64 low) % 2 ^ 64) ≡ low
low_kept high low h l = be_bytes_8 low _ l.0 l.1 (omega (arith, small_8 low l))
