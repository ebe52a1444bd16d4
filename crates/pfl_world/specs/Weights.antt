-- How many edits an event may take: by the states, records or packets that it is about (this project's profile).
use Rattle.std.specs.Prelude.{ℕ}
use Rattle.pfl_language.specs.declared.event.Event.{Event}
use Rattle.pfl_node.specs.Weights.{edits_for}
use Rattle.pfl_world.specs.Events.{work}
use Rattle.pfl_world.specs.Worlds.{World}

-- an event takes at most this many edits
abbrev pub weight : World → Event → ℕ
weight w e = edits_for (work w e)
