-- The words of a line (this project's profile).
use Rattle.std.specs.Prelude.{ℕ, Bool, false, not, ◌||◌, ◌==◌, List, [], ◌∷◌, if◌then◌else◌}

-- a space or a tab
abbrev pub is_blank : ℕ → Bool
is_blank b = (b == 32) || (b == 9)

-- a byte goes onto the front of the first word
abbrev pub with_first : ℕ → List (List ℕ) → List (List ℕ)
with_first b [] = (b ∷ []) ∷ []
with_first b (word ∷ ws) = (b ∷ word) ∷ ws

-- the bytes begin with a word
abbrev pub begins_word : List ℕ → Bool
begins_word [] = false
begins_word (b ∷ bytes) = not (is_blank b)

-- words are separated by spaces and tabs, which may also lead and trail
abbrev pub words : List ℕ → List (List ℕ)
words [] = []
words (b ∷ bytes) =
    if is_blank b then words bytes else
    if begins_word bytes then with_first b (words bytes) else (b ∷ []) ∷ words bytes
