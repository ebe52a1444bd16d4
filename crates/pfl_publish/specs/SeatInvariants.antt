-- What each seat keeps between the calls that are made with it.
use Rattle.std.specs.Prelude.{◌≡◌, ℕ, ◌+◌, ◌≤◌, true, false, List, [], length, take}
use Rattle.atomic_table.specs.Table.{Me}
use Rattle.pfl_publish.specs.declared.view.View.{View}

module _ {S H : Type 0} where
  -- the writer's seat has nothing stored of the next revision, and has the number of the last one
  pub record IsWriterSeat (me : Me S (View H)) (last : ℕ) : Type 0 where
    pub slots : me.1 ≡ []
    pub part : me.0.writes ≡ true
    pub next : me.0.next ≡ []
    pub number : last + 1 ≡ length me.0.list

  -- a viewer's seat has the number that it loaded last, up to which it has seen, and first among its words those that it holds
  pub record IsViewerSeat (me : Me S (View H)) (loaded : ℕ) (words : List ℕ) : Type 0 where
    pub slots : me.1 ≡ []
    pub part : me.0.writes ≡ false
    pub floor : loaded + 1 ≡ length me.0.seen
    pub room : length me.0.held ≤ 8
    pub held : take (length me.0.held) words ≡ me.0.held
