-- What is left of a text that is read part by part.
use Rattle.std.specs.Prelude.{ℕ, List, [], Option, Some, None}
use Rattle.pfl_lines.specs.Search.{parts_of}

-- the parts of what stands after a semicolon, if there is one
abbrev pub parts_behind : Option (List ℕ) → List (List ℕ)
parts_behind None = []
parts_behind (Some text) = parts_of text
