-- A line of known bytes while it is read.
use Rattle.std.specs.Prelude.{ℕ, Bool, true, false, List, [], ◌∷◌, ◌≡◌, ◌++◌, Option, Some, None, ⊤}
use Rattle.pfl_reader.specs.Lines.{with_first, lines_of}
use Rattle.pfl_reader.specs.Scans.{Keeps}
use Rattle.pfl_reader.specs.inner.Scans.{Carried, kept}

-- the CR that came last, if it is not counted yet
abbrev pub carriage_of : Bool → List ℕ
carriage_of true = 13 ∷ []
carriage_of false = []

-- the bytes go onto the front of the first line
abbrev pub prepend : List ℕ → List (List ℕ) → List (List ℕ)
prepend [] lines = lines
prepend (b ∷ body) lines = with_first b (prepend body lines)

-- of known bytes the line so far was taken, with the CR that came last
abbrev pub Begins : Option (List ℕ) → Option (List ℕ) → List ℕ → Bool → Type 0
Begins None new body carriage = ⊤
Begins (Some xs) None body carriage = ⊥
Begins (Some xs) (Some ys) body carriage = lines_of xs ≡ prepend body (lines_of (carriage_of carriage ++ ys))

-- part of a line was taken, and this is kept of it
pub record Reads (k : Carried) (old new : Option (List ℕ)) : Type 0 where
  pub body : List ℕ
  pub keeps : Keeps (kept k) body
  pub begins : Begins old new body k.carriage
