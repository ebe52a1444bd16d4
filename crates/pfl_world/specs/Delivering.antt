-- A frame comes to its receiver (if_pfsync.c; the event and its refusals are this project's profile). What its records do there is
-- defined in pfl_receive.
use Rattle.std.specs.Prelude.{ℕ, List, [], ◌∷◌, length, map, Result, Ok, Err}
use Rattle.std.specs.Option.{option_map_or}
use Rattle.pfl_base.specs.declared.refusal.Refusal.{Refusal}
use Rattle.pfl_base.specs.declared.node_id.NodeId.{NodeId}
use Rattle.pfl_edits.specs.Maps as maps
use Rattle.pfl_wire.specs.declared.fault.BadFrame.{BadFrame}
use Rattle.pfl_wire.specs.Frames.{Frame, records_of}
use Rattle.pfl_wire.specs.Reading.{reading}
use Rattle.pfl_language.specs.declared.outcome.Outcome.TheVariants.{Taken, Broken}
use Rattle.pfl_node.specs.desk.Nodes.{Node, full_tests}
use Rattle.pfl_node.specs.desk.Changes.{count_broken}
use Rattle.pfl_node.specs.receive.Delivering.{received, receive_points, frame_work}
use Rattle.pfl_link.specs.Links.{InFlight}
use Rattle.pfl_world.specs.Meanings.{Meaning, Stepped}
use Rattle.pfl_world.specs.Tickets.{step_unless, with_ticket, without_ticket}
use Rattle.pfl_world.specs.Worlds.{World, node_at, with_node}

-- ---- what follows

-- a frame that is read: its records are taken in order
abbrev pub frame_taken : World → NodeId → Node → Frame → Result Stepped Refusal
frame_taken w to n f = step_unless (full_tests (receive_points n f)) (with_node w to (received n f)) (Taken (length (records_of f)))

-- a frame that cannot be read is counted
abbrev pub broken_taken : World → NodeId → Node → BadFrame → Result Stepped Refusal
broken_taken w to n why = step_unless (full_tests (count_broken n ∷ [])) (with_node w to (count_broken n)) (Broken why)

-- what was read is taken, or counted
abbrev pub read_taken : World → NodeId → Node → Result Frame BadFrame → Result Stepped Refusal
read_taken w to n (Ok f) = frame_taken w to n f
read_taken w to n (Err why) = broken_taken w to n why

-- a frame comes to its receiver
unfoldable pub deliver_step : World → ℕ → Result Stepped Refusal
deliver_step w ticket = with_ticket w ticket (λ f. read_taken (without_ticket w ticket) f.to (node_at w f.to) (reading f.bytes))

-- ---- points

-- the node after each record of a frame that it can read, or with one more counted that it cannot
abbrev pub frame_points : Node → Result Frame BadFrame → List Node
frame_points n (Ok f) = receive_points n f
frame_points n (Err why) = count_broken n ∷ []

-- the points of a frame that comes to its receiver, at one of the nodes
abbrev pub arrival_points : World → NodeId → InFlight → List Node
arrival_points w at f = map (λ n. node_at (with_node w f.to n) at) (frame_points (node_at w f.to) (reading f.bytes))

-- ---- work

-- what a frame that was read is about; one that cannot be read is about nothing
abbrev pub read_work : Node → Result Frame BadFrame → ℕ
read_work n (Ok f) = frame_work n f
read_work n (Err why) = 0

-- a frame's coming is about its records, and the states that they clear
abbrev pub deliver_work : World → ℕ → ℕ
deliver_work w ticket = option_map_or (λ f. read_work (node_at w f.to) (reading f.bytes)) (maps.get w.link.frames ticket) 0

-- what a delivery means
abbrev pub deliver_meaning : World → ℕ → Meaning
deliver_meaning w ticket = record {
  gives = deliver_step w ticket;
  points = λ at. option_map_or (arrival_points w at) (maps.get w.link.frames ticket) [];
  work = deliver_work w ticket;
}
