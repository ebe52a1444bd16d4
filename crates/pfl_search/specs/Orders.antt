-- Orders of events: of two that commute one order is tried (this project's profile).
use Rattle.std.specs.Prelude.{ℕ, Bool, true, false, not, ◌&&◌, nat_eq, nat_lt, if◌then◌else◌, Option, Some, None}
use Rattle.std.specs.Option.{option_map_or}
use Rattle.pfl_base.specs.declared.node_id.NodeId.{NodeId}
use Rattle.pfl_base.specs.declared.node_id.NodeId.TheVariants.{A, B}
use Rattle.pfl_edits.specs.Maps as maps
use Rattle.pfl_language.specs.declared.event.Event.{Event}
use Rattle.pfl_language.specs.declared.event.Event.TheVariants.{At, Flush, Of, Restart}
use Rattle.pfl_language.specs.declared.event.FrameEvent.{FrameEvent}
use Rattle.pfl_language.specs.declared.event.FrameEvent.TheVariants as frame
use Rattle.pfl_world.specs.Worlds.{World}
use Rattle.pfl_search.specs.declared.order.EventKind.{EventKind}
use Rattle.pfl_search.specs.declared.order.EventKind.TheVariants as kind
use Rattle.pfl_search.specs.declared.order.Last.{Last}

-- what the order of an event depends on
abbrev pub kind_of : Event → EventKind
kind_of (At node e) = kind.AtNode
kind_of (Flush node) = kind.Flush
kind_of (Of ticket frame.Deliver) = kind.Delivery
kind_of (Of ticket frame.Lose) = kind.Loss
kind_of (Of ticket frame.Repeat) = kind.Fixed
kind_of (Of ticket (frame.Cut len)) = kind.Fixed
kind_of (Restart node) = kind.Restart

-- events at a come before those at b
abbrev pub node_rank : NodeId → ℕ
node_rank A = 4294967296
node_rank B = 4294967297

-- what happens to a frame in flight: it comes to its receiver, or else it is the frame's own, and frames go by their tickets
abbrev pub frame_rank : World → ℕ → FrameEvent → ℕ
frame_rank w ticket frame.Deliver = option_map_or (λ f. node_rank f.to) (maps.get w.link.frames ticket) 0
frame_rank w ticket _ = ticket

-- of two events that commute that of the lower rank is tried first: frames that are lost, then what happens at a, then at b
abbrev pub rank : World → Event → ℕ
rank w (At node e) = node_rank node
rank w (Flush node) = node_rank node
rank w (Of ticket e) = frame_rank w ticket e
rank w (Restart node) = node_rank node

-- an event of the second kind may come before one of the first, at another node or frame: both would not take the next ticket, nor
-- the next boot number, and no frame is sent before a delivery has made room for it
abbrev pub may_pass : EventKind → EventKind → Bool
may_pass kind.Fixed e = false
may_pass kind.Flush kind.Flush = false
may_pass kind.Delivery kind.Flush = false
may_pass kind.Restart kind.Restart = false
may_pass f kind.Fixed = false
may_pass f e = true

-- the frame that the event is about was in flight when this ticket was the next one
abbrev pub stood_at : ℕ → Event → Bool
stood_at next (Of ticket e) = nat_lt ticket next
stood_at next _ = true

-- what is kept of the event that came last: its rank and kind, and the next ticket when it came
abbrev pub last_of : World → Event → Last
last_of w e = record { rank = rank w e; kind = kind_of e; next = w.link.next }

-- the event may as well come before the last one, and is tried there
abbrev pub comes_first : Last → World → Event → Bool
comes_first last w e = nat_lt (rank w e) last.rank && may_pass last.kind (kind_of e) && stood_at last.next e

-- the event is tried in this world, to which the last one led, if there was one
abbrev pub is_in_turn : Option Last → World → Event → Bool
is_in_turn None w e = true
is_in_turn (Some last) w e = not (comes_first last w e)

-- the last event, if it came in the phase that has begun and the next one is of that phase too: else the order of the two stays
abbrev pub in_phase : Option Last → ℕ → ℕ → Option Last
in_phase last begun phase = if nat_eq begun phase then last else None
