-- A frame that an event of a run sent, and what became of it (this project's profile).
use Rattle.std.specs.Prelude.{ℕ, ◌+◌, ◌==◌, Bool, false, List, [], ◌∷◌, map, filter, find, Option, Result, Ok, Err}
use Rattle.std.specs.Option.{option_map, option_and_then}
use Rattle.pfl_base.specs.declared.refusal.Refusal.{Refusal}
use Rattle.pfl_edits.specs.Maps as maps
use Rattle.pfl_language.specs.declared.event.Event.{Event}
use Rattle.pfl_language.specs.declared.event.Event.TheVariants as event
use Rattle.pfl_language.specs.declared.outcome.Outcome.{Outcome}
use Rattle.pfl_language.specs.declared.outcome.Outcome.TheVariants.{Sent}
use Rattle.pfl_link.specs.Links.{InFlight}
use Rattle.pfl_world.specs.Events.{step}
use Rattle.pfl_world.specs.Meanings.{Stepped}
use Rattle.pfl_world.specs.Worlds.{World}
use Rattle.pfl_reasons.specs.declared.frame_step.FrameStep.{FrameStep}

-- an event that happened, and the pair after it
pub record Done : Type 0 where
  pub step : FrameStep
  pub after : World

-- the event at the place k and those after it, unless it is refused
abbrev pub done_with : ℕ → Event → (World → List Done) → Result Stepped Refusal → List Done
done_with k e rest (Ok s) = record { step = record { place = k; event = e; outcome = s.outcome }; after = s.world } ∷ rest s.world
done_with k e rest (Err why) = []

-- events one after another, the first of them at the place k
unfoldable pub done : ℕ → World → List Event → List Done
done k w [] = []
done k w (e ∷ es) = done_with k e (λ v. done (k + 1) v es) (step w e)

-- a frame was sent under the ticket
abbrev pub is_sent : ℕ → Outcome → Bool
is_sent ticket (Sent given len) = given == ticket
is_sent ticket other = false

-- the event befell the frame of the ticket
abbrev pub befalls : ℕ → Event → Bool
befalls ticket (event.Of of e) = of == ticket
befalls ticket other = false

-- a frame: the event that sent it, the frame as it was sent, and the events that befell it
pub record Trace : Type 0 where
  pub first : FrameStep
  pub frame : InFlight
  pub later : List FrameStep

-- the frame of the ticket, in flight after the event that sent it
abbrev pub trace : ℕ → List Done → Done → Option Trace
trace ticket all d =
    option_map (λ f. record { first = d.step; frame = f; later = filter (λ s. befalls ticket s.event) (map (λ (o : Done). o.step) all) })
    (maps.get d.after.link.frames ticket)

-- what became of the frame that one of the events sent under the ticket, if one did
unfoldable pub traced : World → List Event → ℕ → Option Trace
traced opening es ticket = let all = done 1 opening es in option_and_then (trace ticket all) (find (λ (d : Done). is_sent ticket d.step.outcome) all)
