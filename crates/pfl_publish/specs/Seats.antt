-- What contracts see of the seats, and of a reading.
use Rattle.std.specs.Prelude.{◌≡◌, ℕ, zero, suc, ◌+◌, ◌*◌, ◌-◌, ◌≤◌, Bool, List, [], ◌∷◌, ◌++◌, length}
use Rattle.atomic_table.specs.Seated.{TableId}
use Rattle.pfl_publish.specs.Revisions.{Log, IsRevision, words_at, StartsWith}

-- the writer's seat of one publisher: the list of all revisions
pub record Writer (H : Type 0) : Type 0 where
  pub table : TableId
  pub list : Log H

-- a viewer's seat of one publisher: the revisions up to its floor, in a try the words that it has loaded, and each number that it has loaded, the oldest first
pub record Viewer (H : Type 0) : Type 0 where
  pub table : TableId
  pub seen : Log H
  pub trying : Bool
  pub held : List ℕ
  pub loads : List ℕ

-- this many tries loaded these numbers, two each, of which the second is three or more past the first
abbrev pub AreOvertaken : ℕ → List ℕ → Type 0
AreOvertaken zero loads = loads ≡ []
AreOvertaken (suc count) loads = (earlier : List ℕ) × (at : ℕ) × (now : ℕ) × (loads ≡ earlier ++ at ∷ now ∷ []) × (at + 3 ≤ now) × AreOvertaken count earlier

module _ {H : Type 0} where
  -- the numbers that the viewer has loaded begin with those that it had loaded before
  abbrev pub LoadsOn : Viewer H → Viewer H → Type 0
  LoadsOn old new = (later : List ℕ) × (new.loads ≡ old.loads ++ later)

  -- the viewer is of the same publisher, has seen all that it had seen before, and its loads go on
  abbrev pub SeesOn : Viewer H → Viewer H → Type 0
  SeesOn old new = (new.table ≡ old.table) × StartsWith new.seen old.seen × LoadsOn old new

  -- the viewer loaded the number once, and has seen up to it
  abbrev pub LoadsOnce : Viewer H → Viewer H → Type 0
  LoadsOnce old new = (n : ℕ) × (new.loads ≡ old.loads ++ n ∷ []) × (n + 1 ≡ length new.seen)

  -- the viewer made one try: it loaded `at` first and `now` last, and has seen up to `now`
  abbrev pub MakesTry : Viewer H → Viewer H → ℕ → ℕ → Type 0
  MakesTry old new at now = (new.loads ≡ old.loads ++ at ∷ now ∷ []) × (now + 1 ≡ length new.seen)

  -- The words are all those of revision n of the one list. It is not older than the old floor, and the new floor is at most two behind it
  pub record IsRead (old new : Viewer H) (words : List ℕ) (n : ℕ) : Type 0 where
    pub is : words ≡ words_at n new.seen
    pub revision : IsRevision n words
    pub fresh : length old.seen ≤ n + 1
    pub within : n + 1 ≤ length new.seen
    pub recent : length new.seen ≤ n + 3

  -- The try began at the number `at`, which was at least the old floor, and ended at `now`, the new floor, three or more further on
  pub record IsOvertaken (old new : Viewer H) (at now : ℕ) : Type 0 where
    pub fresh : length old.seen ≤ at + 1
    pub moved : at + 3 ≤ now
    pub reached : now + 1 ≡ length new.seen

  -- `at` is past the old floor by three for each try before the last one; no try counts as one
  abbrev pub OvertakenBefore : ℕ → Viewer H → ℕ → Type 0
  OvertakenBefore tries old at = length old.seen + 3 * (tries - 1) ≤ at + 1

  -- The viewer made this many tries that were overtaken, and then a last one, which loaded `at` first and `now` last. It has seen up to `now`
  pub record MakesTries (old new : Viewer H) (count at now : ℕ) : Type 0 where
    pub earlier : List ℕ
    pub overtaken : AreOvertaken count earlier
    pub loads : new.loads ≡ (old.loads ++ earlier) ++ at ∷ now ∷ []
    pub floor : now + 1 ≡ length new.seen
