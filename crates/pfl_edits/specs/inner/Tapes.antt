-- How a tape keeps its edits. Those of one kind stand on a stack of their own, in fewer bytes, and the others on another; and of
-- each edit it is kept whether it is of that kind. So a tape parts the small ones from the larger, and of the larger ones those of
-- middle size from the large, which are kept whole. S is the type of what is kept of the first kind, E that of the edits. Each list
-- has the oldest first.
use Rattle.std.specs.Prelude.{◌≡◌, List, [], ◌∷◌, Bool, true, false, not, length}
use Rattle.std.specs.List.{count_by}

-- the edits in their order: at each turn of a small one the next of the small ones, whole, and else the next of the large ones
abbrev pub all_edits : {S E : Type 0} → (S → E) → List Bool → List S → List E → List E
all_edits whole [] small large = []
all_edits whole (true ∷ turns) [] large = all_edits whole turns [] large
all_edits whole (true ∷ turns) (s ∷ small) large = whole s ∷ all_edits whole turns small large
all_edits whole (false ∷ turns) small [] = all_edits whole turns small []
all_edits whole (false ∷ turns) small (e ∷ large) = e ∷ all_edits whole turns small large

-- each turn has its edit, and each edit its turn
pub record HaveTurns {S E : Type 0} (turns : List Bool) (small : List S) (large : List E) : Type 0 where
  pub of_small : length small ≡ count_by (λ is_small. is_small) turns
  pub of_large : length large ≡ count_by not turns
