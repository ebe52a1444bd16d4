-- The head of a line stands once a byte that is no blank has come.
use Rattle.std.proofs.Common.{◌≡◌, ℕ, ◌+◌, ◌<◌, List, [], ◌∷◌, length, drop, get_or, refl, sym, ◌∙◌, ap}
use Rattle.std.proofs.lemmas.List.{drop_more}
use Rattle.pfl_reader.specs.declared.head.Head.{Head}
use Rattle.pfl_reader.specs.declared.head.Head.TheVariants.{Blank, Comment, Word}
use Rattle.pfl_reader.specs.Scans.{head_after, head_from, head_of}

-- a comment stays one
head_from-comment : (line : List ℕ) → head_from Comment line ≡ Comment
head_from-comment [] = refl
head_from-comment (b ∷ line) = head_from-comment line

-- a line with a word stays one
head_from-word : (line : List ℕ) → head_from Word line ≡ Word
head_from-word [] = refl
head_from-word (b ∷ line) = head_from-word line

-- the head of what is left of a line is that of its first byte, and then the others
head_of-more : (line : List ℕ) (i : ℕ) (h : Head) → i < length line → h ≡ head_after Blank (get_or line i 0) →
    head_of (drop i line) ≡ head_from h (drop (i + 1) line)
head_of-more line i h within is = rw (drop_more line i 0 within, is) refl

-- a comment begins
pub head_of-comment : (line : List ℕ) (i : ℕ) (h : Head) → head_of (drop i line) ≡ head_of line → i < length line → h ≡ head_after Blank (get_or line i 0) →
    h ≡ Comment → Comment ≡ head_of line
head_of-comment line i h so_far within is at =
    sym (head_from-comment (drop (i + 1) line)) ∙ sym (ap (λ (x : Head). head_from x (drop (i + 1) line)) at) ∙ sym (head_of-more line i h within is) ∙ so_far

-- a word begins
pub head_of-word : (line : List ℕ) (i : ℕ) (h : Head) → head_of (drop i line) ≡ head_of line → i < length line → h ≡ head_after Blank (get_or line i 0) →
    h ≡ Word → Word ≡ head_of line
head_of-word line i h so_far within is at =
    sym (head_from-word (drop (i + 1) line)) ∙ sym (ap (λ (x : Head). head_from x (drop (i + 1) line)) at) ∙ sym (head_of-more line i h within is) ∙ so_far
