-- What each kind of step shows the seat that makes it.
use Rattle.std.specs.Prelude.{◌≡◌, ℕ, ◌+◌, ◌-◌, ◌<◌, ◌≤◌, Bool, true, List, length, take}
use Rattle.atomic_table.specs.Table.{Me, Step}
use Rattle.pfl_publish.specs.declared.view.View.{View}
use Rattle.pfl_publish.specs.Revisions.{Log, IsRevision, words_at, StartsWith}
use Rattle.pfl_publish.specs.Views.{with_word, with_names, with_held, with_seen}

module _ {H : Type 0} where
  -- What a seat with the view v learns with the number n: all revisions up to it. What it had seen comes first there, and what it held is
  -- whole if the number is at most two past its floor. The writer's list is what is seen
  pub record Learns (v : View H) (n : ℕ) (seen : Log H) : Type 0 where
    pub number : length seen ≡ n + 1
    pub begun : StartsWith seen v.seen
    pub older : StartsWith seen v.old
    pub revisions : (k : ℕ) → k < length seen → IsRevision k (words_at k seen)
    pub whole : 0 < length v.seen → length seen ≤ length v.seen + 2 → take (length v.held) (words_at (length v.seen - 1) seen) ≡ v.held
    pub all : v.writes ≡ true → seen ≡ v.list

  module _ {S : Type 0} where
    -- the seat has loaded the number n, and nothing but what it has seen and its try changed
    abbrev pub Looks : Bool → Me S (View H) → ℕ → Me S (View H) → Type 0
    Looks trying m n m' = (m' ≡ (with_seen m.0 n m'.0.seen trying, m.1)) × Learns m.0 n m'.0.seen

    -- a load of the number
    abbrev pub LoadsNumber : Bool → Step S → Me S (View H) → ℕ → Me S (View H) → Type 0
    LoadsNumber trying st m n m' = Looks trying m n m'

    -- a load of the next word of the try's revision
    abbrev pub LoadsWord : Step S → Me S (View H) → ℕ → Me S (View H) → Type 0
    LoadsWord st m n m' = m' ≡ (with_held m.0 n, m.1)

    -- a store of the next word of the next revision
    abbrev pub StoresWord : Step S → Me S (View H) → ℕ → Me S (View H) → Type 0
    StoresWord st m n m' = m' ≡ (with_word m.0 n, m.1)

    -- the store of the next revision's number, under the name picked
    abbrev pub StoresNumber : List H → Step S → Me S (View H) → ℕ → Me S (View H) → Type 0
    StoresNumber names st m n m' = m' ≡ (with_names m.0 names, m.1)
