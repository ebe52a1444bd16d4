-- One step of the pair, and why an event is refused. What an event means is defined in a file of its own.
use Rattle.std.specs.Prelude.{◌≡◌, ℕ, List, Result, Ok, Err}
use Rattle.pfl_base.specs.declared.node_id.NodeId.{NodeId}
use Rattle.pfl_base.specs.declared.refusal.Refusal.{Refusal}
use Rattle.pfl_base.specs.declared.refusal.Refusal.TheVariants.{NoMemory}
use Rattle.pfl_language.specs.declared.event.Event.{Event}
use Rattle.pfl_language.specs.declared.event.Event.TheVariants as event
use Rattle.pfl_language.specs.declared.event.FrameEvent.{FrameEvent}
use Rattle.pfl_language.specs.declared.event.FrameEvent.TheVariants as frame
use Rattle.pfl_node.specs.desk.Nodes.{Node}
use Rattle.pfl_world.specs.AtNodes.{at_node_meaning}
use Rattle.pfl_world.specs.Delivering.{deliver_meaning}
use Rattle.pfl_world.specs.Flushing.{flush_meaning}
use Rattle.pfl_world.specs.Meanings.{Meaning, Stepped}
use Rattle.pfl_world.specs.Restarting.{restart_meaning}
use Rattle.pfl_world.specs.Tickets.{lose_step, repeat_step, cut_step, link_meaning}
use Rattle.pfl_world.specs.Worlds.{World}

-- what an event of a frame in flight means
abbrev pub frame_meaning : World → ℕ → FrameEvent → Meaning
frame_meaning w ticket frame.Deliver = deliver_meaning w ticket
frame_meaning w ticket frame.Lose = link_meaning (lose_step w ticket)
frame_meaning w ticket frame.Repeat = link_meaning (repeat_step w ticket)
frame_meaning w ticket (frame.Cut len) = link_meaning (cut_step w ticket len)

-- an event of a frame in flight
abbrev pub frame_event : World → ℕ → FrameEvent → Result Stepped Refusal
frame_event w ticket e = (frame_meaning w ticket e).gives

-- what an event means (this project's profile)
abbrev pub meaning : World → Event → Meaning
meaning w (event.At node e) = at_node_meaning w node e
meaning w (event.Flush node) = flush_meaning w node
meaning w (event.Of ticket e) = frame_meaning w ticket e
meaning w (event.Restart node) = restart_meaning w node

-- an event of the pair: the world after it with its outcome, or the first refusal that applies
unfoldable pub step : World → Event → Result Stepped Refusal
step w e = (meaning w e).gives

-- the points that one of the nodes goes through: where the event is at the other node, it stays as it was
abbrev pub points_at : World → Event → NodeId → List Node
points_at w e at = (meaning w e).points at

-- the number of states, records or packets that the event is about
abbrev pub work : World → Event → ℕ
work w e = (meaning w e).work

-- an event that is refused reports the refusal of its step; where that has none, it wanted memory
abbrev pub IsRefusalOf : Result Stepped Refusal → Refusal → Type 0
IsRefusalOf (Err first) r = r ≡ first
IsRefusalOf (Ok s) r = r ≡ NoMemory

-- why an event is refused: want of memory comes last
abbrev pub IsEventRefusal : World → Event → Refusal → Type 0
IsEventRefusal w e r = IsRefusalOf (step w e) r
