-- What a look at the world that the first k events give comes to. S is the type of what it comes to, W that of what it writes to.
use Rattle.std.specs.Prelude.{◌≡◌, ℕ, List, true, false, nat_lt, length, take, Option, Some, None}
use Rattle.pfl_edits.specs.Maps as maps
use Rattle.pfl_language.specs.declared.event.Event.{Event}
use Rattle.pfl_search.specs.world.link.Links.{InFlight}
use Rattle.pfl_search.specs.world.Runs.{run}
use Rattle.pfl_search.specs.world.Worlds.{World}
use Rattle.pfl_timeline.specs.Answers.{explanation}
use Rattle.pfl_timeline.specs.Replies.{Reply, Shown}

-- the first k events have a world, and this is what was seen of it
pub record IsSeen {W S : Type 0} (sees : Reply → W → W → S → Type 0) (name : List ℕ) (opening : World) (events : List Event) (k : ℕ)
    (old new : W) (seen : S) : Type 0 where
  pub world : World
  pub run_to : run opening (take k events) ≡ Some world
  pub sees_it : sees (Shown name (length events) k world) old new seen

-- so it is, unless there are fewer events: then nothing is seen, and nothing is written
abbrev pub SeesAt : {W S : Type 0} → (Reply → W → W → S → Type 0) → List ℕ → World → List Event → ℕ → W → W → Option S → Type 0
SeesAt sees name opening events k old new None = (nat_lt (length events) k ≡ true) × (new ≡ old)
SeesAt sees name opening events k old new (Some seen) = (nat_lt (length events) k ≡ false) × IsSeen sees name opening events k old new seen

-- the explanation of an event at the k-th place by one who sees this; only a world that is shown has one
abbrev pub explained_there : ℕ → Event → Reply → Reply
explained_there k e (Shown name events place w) = explanation name k w e
explained_there k e other = other

-- the frame in flight under the ticket, seen by one who sees this; only a world that is shown has one
abbrev pub frame_there : ℕ → Reply → Option InFlight
frame_there ticket (Shown name events place w) = maps.get w.link.frames ticket
frame_there ticket other = None
