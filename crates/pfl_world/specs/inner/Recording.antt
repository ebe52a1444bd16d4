-- What was recorded of the pair, in a list of edits that grows.
use Rattle.std.specs.Prelude.{◌≡◌, List, ◌++◌}
use Rattle.std.specs.List.{AllByRecursion}
use Rattle.pfl_world.specs.declared.edit.WorldEdit.{WorldEdit}
use Rattle.pfl_world.specs.WorldEdits.{WorldLeadsBack}
use Rattle.pfl_world.specs.Worlds.{World}

-- edits of this kind were appended, which lead from the old pair to the new one and back
pub record Recorded {M : Type 0} (Kind : WorldEdit M → Type 0) (old new : World) (before after : List (WorldEdit M)) : Type 0 where
  pub edits : List (WorldEdit M)
  pub appended : after ≡ before ++ edits
  pub leads_back : WorldLeadsBack edits old new
  pub kind : AllByRecursion Kind edits
