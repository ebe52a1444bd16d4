-- Turns as the search has them in hand.
use Rattle.std.specs.Prelude.{◌≡◌, ◌<◌, ◌+◌, ℕ, Bool, true, false, List, length, slice_get, Option, Some, Ok, Err}
use Rattle.pfl_base.specs.declared.refusal.Refusal.{Refusal}
use Rattle.pfl_edits.specs.Changes.{Fits, back}
use Rattle.pfl_edits.specs.Tapes.{above, below}
use Rattle.pfl_world.specs.declared.edit.WorldEdit.{WorldEdit}
use Rattle.pfl_world.specs.Events.{step}
use Rattle.pfl_world.specs.Meanings.{Stepped}
use Rattle.pfl_world.specs.WorldEdits.{Finds, put_back}
use Rattle.pfl_world.specs.Worlds.{World, IsWorld}
use Rattle.pfl_search.specs.Choices.{Stage, used}
use Rattle.pfl_search.specs.Visits.{asking, at_end, each, tally_after}
use Rattle.pfl_language.specs.declared.choice.Choice.{Choice}
use Rattle.pfl_search.specs.declared.order.Last.{Last}
use Rattle.pfl_language.specs.declared.goal.Goal.{Goal}
use Rattle.pfl_search.specs.declared.tally.Tally.{Tally}
use Rattle.pfl_search.specs.declared.turns.Candidate.{Candidate}

-- the turn is of a choice that has a use left
pub record IsOf (cs : List Choice) (t : Candidate) : Type 0 where
  pub choice : Choice
  pub at : slice_get cs t.place ≡ Some choice
  pub left : 0 < choice.uses

-- The event was accepted: the world and the choices went on, and what the tape has above its former length leads back.
pub record Entered {M : Type 0} (t : Candidate) (old new : World) (tape longer : List (WorldEdit M)) (cs left : List Choice) : Type 0 where
  pub gives : Stepped
  pub accepted : step old t.event ≡ Ok gives
  pub world : new ≡ gives.world
  pub choices : left ≡ used cs t.place
  pub taped : below (length tape) longer ≡ tape
  pub fits : Fits Finds IsWorld put_back (above (length tape) longer) new
  pub leads_back : back put_back (above (length tape) longer) new ≡ old

-- the event was refused, and nothing changed
pub record Stays {M : Type 0} (t : Candidate) (old new : World) (tape longer : List (WorldEdit M)) (cs left : List Choice) : Type 0 where
  pub why : Refusal
  pub refused : step old t.event ≡ Err why
  pub world : new ≡ old
  pub tape_stays : longer ≡ tape
  pub choices : left ≡ cs

-- what becomes of a turn that is tried
abbrev pub Enters : {M : Type 0} → Candidate → World → World → List (WorldEdit M) → List (WorldEdit M) → List Choice → List Choice → Bool → Type 0
Enters t old new tape longer cs left true = Entered t old new tape longer cs left
Enters t old new tape longer cs left false = Stays t old new tape longer cs left

-- A search from a world was counted: each world that was visited, those in which the question was asked, and those that a run of as many
-- events leads to as there may be.
pub record Tallies (old new : Tally) (before : Option Last) (goal : Goal) (depth : ℕ) (st : Stage) (w : World) : Type 0 where
  pub left : new.left + tally_after each before goal depth st w ≡ old.left
  pub asked : new.asked ≡ old.asked + tally_after (asking goal) before goal depth st w
  pub at_end : new.at_end ≡ old.at_end + tally_after at_end before goal depth st w
