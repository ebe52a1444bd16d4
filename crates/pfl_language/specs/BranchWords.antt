-- Words for branches: which of them are names, and words in arrays that are filled up with zeros (this project's profile).
use Rattle.std.specs.Prelude.{◌≡◌, ◌≤◌, ℕ, ◌-◌, Bool, false, ◌&&◌, ◌||◌, ◌==◌, nat_le, nat_lt, List, [], ◌∷◌, ◌++◌, length, drop, replicate, Option}
use Rattle.std.specs.Prelude.{Some, None, if◌then◌else◌}
use Rattle.std.specs.List.{list_all}
use Rattle.std.specs.Cmp.Lexicographic.{pointwise}

-- ---- names

-- a letter a to z
abbrev pub is_letter : ℕ → Bool
is_letter c = nat_le 97 c && nat_le c 122

-- a letter, a digit or a dash
abbrev pub is_name_byte : ℕ → Bool
is_name_byte c = is_letter c || (nat_le 48 c && nat_le c 57) || (c == 45)

-- a letter, and at most 15 letters, digits and dashes
abbrev pub is_branch_name : List ℕ → Bool
is_branch_name [] = false
is_branch_name (c ∷ cs) = is_letter c && list_all is_name_byte cs && nat_le (length cs) 15

-- both are one name
abbrev pub same_name : List ℕ → List ℕ → Bool
same_name = pointwise ◌==◌

-- m, a, i, n
abbrev pub main_name : List ℕ
main_name = 109 ∷ 97 ∷ 105 ∷ 110 ∷ []

-- ---- words

-- the first len bytes are a word, and the rest is zeros
pub record IsWord (bytes : List ℕ) (len : ℕ) : Type 0 where
  pub whole : length bytes ≡ 32
  pub short : len ≤ 32
  pub padded : drop len bytes ≡ replicate (32 - len) 0

-- the word of these bytes, if there are at most 32
abbrev pub branch_word : List ℕ → Option (List ℕ)
branch_word bytes = if nat_lt 32 (length bytes) then None else Some bytes

-- the word filled up again
abbrev pub filled : List ℕ → List ℕ
filled word = word ++ replicate (32 - length word) 0
