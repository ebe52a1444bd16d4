-- What an event recorded, where its edits are kept. This project's profile.
--
-- E is the type of the edits of a value of type S, W that of the edits that are kept, of a whole of which the value is a part: `of e`
-- is the edit e of the part as an edit of the whole.
use Rattle.std.specs.Prelude.{◌≡◌, ◌≤◌, ℕ, List, ◌++◌, map, length}
use Rattle.pfl_edits.specs.Changes.{LeadsBack}

-- at most k edits, which lead the part back from new to old, were appended to those from before
pub record Recorded {S E W : Type 0} (finds : E → S → Type 0) (allows : S → Type 0) (put_back : E → S → S) (of : E → W) (k : ℕ)
    (old new : S) (before after : List W) : Type 0 where
  pub edits : List E
  pub appended : after ≡ before ++ map of edits
  pub leads_back : LeadsBack finds allows put_back edits old new
  pub few : length edits ≤ k
