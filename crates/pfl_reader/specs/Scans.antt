-- What is kept of a line that was read.
use Rattle.std.specs.Prelude.{◌≡◌, ℕ, Bool, true, false, ◌==◌, nat_lt, List, [], ◌∷◌, ◌++◌, length, take, if◌then◌else◌, Option, Some, None, ⊤}
use Rattle.pfl_reader.specs.Lines.{lines_of, is_blank}
use Rattle.pfl_reader.specs.declared.head.Head.{Head}
use Rattle.pfl_reader.specs.declared.head.Head.TheVariants.{Blank, Comment, Word}

-- what a line is after one more byte
abbrev pub head_after : Head → ℕ → Head
head_after Blank b = if is_blank b then Blank else if b == 35 then Comment else Word
head_after Comment b = Comment
head_after Word b = Word

-- a line without a word, a comment, or a line with a word, from a head on
abbrev pub head_from : Head → List ℕ → Head
head_from h [] = h
head_from h (b ∷ line) = head_from (head_after h b) line

-- whether the line has a word, and whether the first begins with #
abbrev pub head_of : List ℕ → Head
head_of line = head_from Blank line

-- the line has a word and is no comment
abbrev pub has_word : Head → Bool
has_word Word = true
has_word Blank = false
has_word Comment = false

-- what is kept of a line: its first 512 bytes, whether it is longer, and its head
pub record Kept : Type 0 where
  pub bytes : List ℕ
  pub long : Bool
  pub head : Head

-- this is kept of a line that is body
pub record Keeps (k : Kept) (body : List ℕ) : Type 0 where
  pub bytes : k.bytes ≡ take 512 body
  pub long : k.long ≡ nat_lt 512 (length body)
  pub head : k.head ≡ head_of body

-- of known bytes the first line was taken
abbrev pub TakesLine : Option (List ℕ) → Option (List ℕ) → List ℕ → Type 0
TakesLine None new body = ⊤
TakesLine (Some xs) None body = ⊥
TakesLine (Some xs) (Some ys) body = lines_of xs ≡ body ∷ lines_of ys

-- of known bytes these lines were taken
abbrev pub TakesLines : Option (List ℕ) → Option (List ℕ) → List (List ℕ) → Type 0
TakesLines None new lines = ⊤
TakesLines (Some xs) None lines = ⊥
TakesLines (Some xs) (Some ys) lines = lines_of xs ≡ lines ++ lines_of ys

-- a line was taken, and this is kept of it
pub record ReadsLine (k : Kept) (old new : Option (List ℕ)) : Type 0 where
  pub body : List ℕ
  pub keeps : Keeps k body
  pub takes : TakesLine old new body

-- no known byte was left, nor is now
abbrev pub IsOver : Option (List ℕ) → Option (List ℕ) → Type 0
IsOver None new = ⊤
IsOver (Some xs) None = ⊥
IsOver (Some xs) (Some ys) = (xs ≡ []) × (ys ≡ [])

-- what a reader of lines took: a line, of which this is kept, or nothing at the end
abbrev pub Gives : Option (List ℕ) → Option (List ℕ) → Bool → Kept → Type 0
Gives old new false k = IsOver old new
Gives old new true k = ReadsLine k old new
