-- How hashes are made of words.
use Rattle.std.specs.Prelude.{ℕ, ◌*◌, ◌/◌, ◌%◌, ◌^◌, bit_xor}
use Rattle.pfl_containers.specs.declared.hash.TheConstants.{MULTIPLIER}

-- the halves of a product of 128 bits, laid over each other
abbrev pub folded : ℕ → ℕ
folded product = bit_xor (product % 2 ^ 64) (product / 2 ^ 64)

-- a hash with one more word in it
abbrev pub mixed : ℕ → ℕ → ℕ
mixed hash word = folded (bit_xor hash word * MULTIPLIER)
