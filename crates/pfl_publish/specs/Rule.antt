-- The rule of the words. It holds between any two steps of any threads.
use Rattle.std.specs.Prelude.{◌≡◌, ℕ, ◌+◌, ◌-◌, ◌<◌, ◌≤◌, true, List, length, take, slice_index}
use mathlib.Core.Option.{some}
use lib.ListN.{get_elem?}
use Rattle.atomic_table.specs.Table.{State}
use Rattle.pfl_publish.specs.declared.view.View.{View}
use Rattle.pfl_publish.specs.Revisions.{Log, word_index, IsRevision, words_at, StartsWith}

module _ {H : Type 0} where
  -- What one seat knows is true. `part`: if it has the writer's part, it is the seat of that number and knows the list and the words
  -- stored of the next revision. `begun` and `older`: the list begins with what it has seen. `whole`: while the number is at most two
  -- past its floor, the words that it holds are the first of that revision
  pub record Knows (list : Log H) (next : List ℕ) (writer seat : ℕ) (v : View H) : Type 0 where
    pub part : v.writes ≡ true → (seat ≡ writer) × (v.list ≡ list) × (v.next ≡ next)
    pub begun : StartsWith list v.seen
    pub older : StartsWith list v.old
    pub whole : 0 < length v.seen → length list ≤ length v.seen + 2 → take (length v.held) (words_at (length v.seen - 1) list) ≡ v.held

  -- this seat has the writer's part
  abbrev pub HasWriter : List (View H) → ℕ → Type 0
  HasWriter views writer = (v : View H) × (get_elem? views writer ≡ some v) × (v.writes ≡ true)

  -- There is one list of revisions. `number`: the number word is that of the last one. `whole`: the last three stand whole, each in its
  -- bank. `stored`: the bank of the next one has the words that the writer has stored of it. `one`: some seat has the writer's part, by
  -- `each` no other does. `each`: what every seat knows is true; a spent seat knows nothing
  pub record IsKept {S : Type 0} (s : State S (View H)) : Type 0 where
    pub list : Log H
    pub next : List ℕ
    pub writer : ℕ
    pub wide : length s.words ≡ 33
    pub number : slice_index s.words 0 ≡ length list - 1
    pub revisions : (n : ℕ) → n < length list → IsRevision n (words_at n list)
    pub whole : (n i : ℕ) → n < length list → length list ≤ n + 3 → i < 8 → slice_index s.words (word_index n i) ≡ slice_index (words_at n list) i
    pub stored : (i : ℕ) → i < length next → slice_index s.words (word_index (length list) i) ≡ slice_index next i
    pub room : length next ≤ 8
    pub one : HasWriter s.views writer
    pub each : (seat : ℕ) (v : View H) → get_elem? s.views seat ≡ some v → Knows list next writer seat v
