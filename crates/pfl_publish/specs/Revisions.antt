-- Revisions, lists of them, and where they stand among the words.
use Rattle.std.specs.Prelude.{◌≡◌, ℕ, zero, suc, ◌+◌, ◌*◌, ◌%◌, List, [], ◌∷◌, length, take, slice_index, cond, nat_le}
use Rattle.pfl_publish.specs.declared.view.Published.{Published}

-- Which of the words has word i of revision n. This project's profile: word 0 is the number, and four banks of eight words follow
abbrev pub word_index : ℕ → ℕ → ℕ
word_index n i = 8 * (n % 4) + i + 1

-- These are the words of a revision number n. This project's profile: eight words, of which the first is the number
abbrev pub IsRevision : ℕ → List ℕ → Type 0
IsRevision n words = (length words ≡ 8) × (slice_index words 0 ≡ n)

-- all revisions in order, number 0 first
abbrev pub Log : Type 0 → Type 0
Log H = List (Published H)

module _ {H : Type 0} where
  -- the revision of these words, which stands for h
  abbrev pub published : List ℕ → H → Published H
  published words h = record { words = words; named = h }

  -- the words of revision n; of none, past the end
  abbrev pub words_at : ℕ → Log H → List ℕ
  words_at n [] = []
  words_at zero (x ∷ xs) = x.words
  words_at (suc n) (x ∷ xs) = words_at n xs

  -- the list begins with what was seen
  abbrev pub StartsWith : Log H → Log H → Type 0
  StartsWith list seen = take (length seen) list ≡ seen

  -- the longer of two lists, the first where they are as long
  abbrev pub longer : Log H → Log H → Log H
  longer a b = cond (nat_le (length b) (length a)) a b

  -- the other one
  abbrev pub shorter : Log H → Log H → Log H
  shorter a b = cond (nat_le (length b) (length a)) b a
