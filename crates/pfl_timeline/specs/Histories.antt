-- Events over an opening world, the first of which stand (this project's profile).
use Rattle.std.specs.Prelude.{◌+◌, ◌≤◌, ℕ, List, [], ◌∷◌, ◌++◌, length, take, Option, is_some, IsTrue}
use Rattle.pfl_language.specs.declared.event.Event.{Event}
use Rattle.pfl_search.specs.world.Runs.{run}
use Rattle.pfl_search.specs.world.Worlds.{World, IsWorld}

-- events over an opening, and how many of them stand
pub record History : Type 0 where
  pub opening : World
  pub events : List Event
  pub cursor : ℕ

-- the world that those that stand give
abbrev pub reached : History → Option World
reached h = run h.opening (take h.cursor h.events)

-- all events were accepted where they stand
pub record IsHistory (h : History) : Type 0 where
  pub opening : IsWorld h.opening
  pub within : h.cursor ≤ length h.events
  pub runs : IsTrue (is_some (run h.opening h.events))

-- the event after those that stand, in place of what was undone
abbrev pub continued : History → Event → History
continued h e = record h { events = take h.cursor h.events ++ e ∷ []; cursor = h.cursor + 1 }
