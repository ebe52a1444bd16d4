-- Choices: which events may happen next, how many times each, and in which phase of a run (this project's profile).
use Rattle.std.specs.Prelude.{ℕ, zero, suc, ◌+◌, ◌-◌, ◌&&◌, nat_le, nat_lt, List, [], ◌∷◌, ◌++◌, map, if◌then◌else◌}
use Rattle.pfl_edits.specs.Maps as maps
use Rattle.pfl_language.specs.declared.event.Event.{Event}
use Rattle.pfl_language.specs.declared.event.Event.TheVariants.{Of}
use Rattle.pfl_language.specs.declared.event.FrameEvent.{FrameEvent}
use Rattle.pfl_world.specs.Worlds.{World}
use Rattle.pfl_language.specs.declared.choice.Move.{Move}
use Rattle.pfl_language.specs.declared.choice.Move.TheVariants.{Given, AnyFrame}
use Rattle.pfl_language.specs.declared.choice.Choice.{Choice}
use Rattle.pfl_search.specs.declared.turns.Candidate.{Candidate}

-- where a run is among its choices: those that there are, with the uses that each has left, and the phase that has begun
pub record Stage : Type 0 where
  pub choices : List Choice
  pub phase : ℕ

abbrev pub stage : List Choice → ℕ → Stage
stage cs begun = record { choices = cs; phase = begun }

-- before any event each phase may come
abbrev pub start : List Choice → Stage
start cs = stage cs 0

-- the tickets of the frames in flight, in order
abbrev pub tickets : World → List ℕ
tickets w = maps.keys w.link.frames

-- the events of a move in a world: the given one, or that of each frame in flight
abbrev pub instances : World → Move → List Event
instances w (Given e) = e ∷ []
instances w (AnyFrame e) = map (λ ticket. Of ticket e) (tickets w)

-- an event, the place of its choice, and its phase
abbrev pub turn : ℕ → ℕ → Event → Candidate
turn place phase e = record { place = place; phase = phase; event = e }

-- the turn in which this happens to the frame of the ticket
abbrev pub turn_on : ℕ → ℕ → FrameEvent → ℕ → Candidate
turn_on place phase e ticket = turn place phase (Of ticket e)

-- what can be tried of the choice at a place: the events of its move, if its phase is not over and it has a use left
abbrev pub turns_of : ℕ → World → ℕ → Choice → List Candidate
turns_of begun w place c = if nat_le begun c.phase && nat_lt 0 c.uses then map (turn place c.phase) (instances w c.what) else []

-- what can be tried of choices, of which the first is at this place
abbrev pub turns_from : ℕ → ℕ → World → List Choice → List Candidate
turns_from begun place w [] = []
turns_from begun place w (c ∷ cs) = turns_of begun w place c ++ turns_from begun (place + 1) w cs

-- what can be tried in a world, in the order of the choices
unfoldable pub turns : Stage → World → List Candidate
turns st w = turns_from st.phase 0 w st.choices

-- the choice with one use less
abbrev pub once_less : Choice → Choice
once_less c = record c { uses = c.uses - 1 }

-- the choices after a use of the one at the place
unfoldable pub used : List Choice → ℕ → List Choice
used [] place = []
used (c ∷ cs) zero = once_less c ∷ cs
used (c ∷ cs) (suc place) = c ∷ used cs place

-- after it, where that one is of this phase: earlier ones are over
abbrev pub taken : Stage → ℕ → ℕ → Stage
taken st place phase = stage (used st.choices place) phase
