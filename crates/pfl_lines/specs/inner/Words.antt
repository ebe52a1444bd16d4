-- The first word of bytes, and what follows it.
use Rattle.std.specs.Prelude.{ℕ, List, [], ◌∷◌, if◌then◌else◌}
use Rattle.pfl_lines.specs.Words.{is_blank}

-- the first word of bytes that begin with one
abbrev pub front : List ℕ → List ℕ
front [] = []
front (b ∷ bytes) = if is_blank b then [] else b ∷ front bytes

-- what follows the first word
abbrev pub behind : List ℕ → List ℕ
behind [] = []
behind (b ∷ bytes) = if is_blank b then b ∷ bytes else behind bytes
