-- An event that happened stands on the tape above the mark that was set before it, and taking the tape back to the mark gives what was.
use Rattle.std.specs.Prelude.{◌≡◌, ℕ, List, length}
use Rattle.std.proofs.Common.{◌∙◌}
use Rattle.pfl_edits.specs.Changes.{Fits, back}
use Rattle.pfl_edits.specs.Tapes.{above, below}
use Rattle.pfl_world.specs.WorldEdits.{Finds, put_back}
use Rattle.pfl_world.specs.Worlds.{World, IsWorld}
use Rattle.pfl_world.specs.declared.edit.WorldEdit.{WorldEdit}

module _ {M : Type 0} (old new : World) (tape longer : List (WorldEdit M)) (taped : below (length tape) longer ≡ tape)
    (fits : Fits Finds IsWorld put_back (above (length tape) longer) new) (leads_back : back put_back (above (length tape) longer) new ≡ old)
    (mark : ℕ) (is : mark ≡ length tape) (at : World) (on : List (WorldEdit M)) (same_world : at ≡ new) (same_tape : on ≡ longer) where
  pub world_back : (v : World) → v ≡ back put_back (above mark on) at → v ≡ old
  world_back v e = e ∙ (rw (is, same_tape, same_world) leads_back)

  pub tape_back : (es : List (WorldEdit M)) → es ≡ below mark on → es ≡ tape
  tape_back es e = e ∙ (rw (is, same_tape) taped)
