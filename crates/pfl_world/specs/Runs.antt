-- Runs of events (this project's profile).
use Rattle.std.specs.Prelude.{List, Option, Some, None, Result, Ok, Err}
use Rattle.std.specs.List.{fold}
use Rattle.std.specs.Option.{option_and_then}
use Rattle.pfl_base.specs.declared.refusal.Refusal.{Refusal}
use Rattle.pfl_language.specs.declared.event.Event.{Event}
use Rattle.pfl_world.specs.Meanings.{Stepped}
use Rattle.pfl_world.specs.Worlds.{World}
use Rattle.pfl_world.specs.Events.{step}

-- the world after an event that is accepted
abbrev pub world_after : Result Stepped Refusal → Option World
world_after (Ok s) = Some s.world
world_after (Err r) = None

-- the world after the events; it has no value where one is refused
unfoldable pub run : World → List Event → Option World
run w events = fold (λ at e. option_and_then (λ v. world_after (step v e)) at) (Some w) events
