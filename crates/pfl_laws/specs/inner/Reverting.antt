-- What the edits of a run lead back.
use Rattle.std.specs.Prelude.{List}
use Rattle.pfl_world.specs.declared.edit.WorldEdit.{WorldEdit}
use Rattle.pfl_world.specs.WorldEdits.{WorldLeadsBack}
use Rattle.pfl_world.specs.Worlds.{World}

-- where the former edits led back from w, the later ones lead back from v
abbrev pub LeadsOn : {M : Type 0} → List (WorldEdit M) → List (WorldEdit M) → World → World → Type 0
LeadsOn former later w v = (origin : World) → WorldLeadsBack former origin w → WorldLeadsBack later origin v
