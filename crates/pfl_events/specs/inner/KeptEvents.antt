-- Events as a list of them keeps them: those without a packet by themselves, and those with one beside a list of packets, of which
-- each event takes the next (this project's profile).
use Rattle.std.specs.Prelude.{◌≡◌, ℕ, ◌+◌, Bool, true, false, List, [], ◌∷◌, length, filter, map, slice_get, Option, None, Some}
use Rattle.pfl_base.specs.declared.fields.PacketFields.{PacketFields}
use Rattle.pfl_base.specs.declared.direction.Dir.{Dir}
use Rattle.pfl_base.specs.declared.node_id.NodeId.{NodeId}
use Rattle.pfl_language.specs.declared.event.Event.{Event}
use Rattle.pfl_language.specs.declared.event.Event.TheVariants as event
use Rattle.pfl_language.specs.declared.node_event.NodeEvent.{NodeEvent}
use Rattle.pfl_language.specs.declared.node_event.NodeEvent.TheVariants as at_node
use Rattle.pfl_events.specs.declared.kept_event.KeptEvent.{KeptEvent}
use Rattle.pfl_events.specs.declared.kept_event.KeptEvent.TheVariants as kept
use Rattle.pfl_events.specs.declared.kept_event.PlainEvent.{PlainEvent}
use Rattle.pfl_events.specs.declared.kept_event.PlainEvent.TheVariants as plain

-- ---- an event as it is kept

-- an event at a node, whose packet lies at the index
abbrev pub kept_at : NodeId → NodeEvent → ℕ → KeptEvent
kept_at node (at_node.Packet dir packet) index = kept.Packet node dir index
kept_at node (at_node.Tick ms) index = kept.Plain (plain.Tick node ms)
kept_at node at_node.Purge index = kept.Plain (plain.Purge node)
kept_at node at_node.Release index = kept.Plain (plain.Release node)
kept_at node (at_node.Kill name) index = kept.Plain (plain.Kill node name.creator name.id)
kept_at node at_node.Clear index = kept.Plain (plain.Clear node)
kept_at node at_node.BulkTurn index = kept.Plain (plain.BulkTurn node)
kept_at node at_node.BulkRetry index = kept.Plain (plain.BulkRetry node)

abbrev pub kept_of : Event → ℕ → KeptEvent
kept_of (event.At node e) index = kept_at node e index
kept_of (event.Flush node) index = kept.Plain (plain.Flush node)
kept_of (event.Of ticket e) index = kept.Plain (plain.Of ticket e)
kept_of (event.Restart node) index = kept.Plain (plain.Restart node)

-- its packet, if it has one
abbrev pub packet_at : NodeEvent → Option PacketFields
packet_at (at_node.Packet dir packet) = Some packet
packet_at other = None

abbrev pub packet_of : Event → Option PacketFields
packet_of (event.At node e) = packet_at e
packet_of other = None

-- ---- the event that it is

abbrev pub plain_event : PlainEvent → Event
plain_event (plain.Tick node ms) = event.At node (at_node.Tick ms)
plain_event (plain.Purge node) = event.At node at_node.Purge
plain_event (plain.Release node) = event.At node at_node.Release
plain_event (plain.Kill node creator id) = event.At node (at_node.Kill (record { creator = creator; id = id }))
plain_event (plain.Clear node) = event.At node at_node.Clear
plain_event (plain.BulkTurn node) = event.At node at_node.BulkTurn
plain_event (plain.BulkRetry node) = event.At node at_node.BulkRetry
plain_event (plain.Flush node) = event.Flush node
plain_event (plain.Of ticket e) = event.Of ticket e
plain_event (plain.Restart node) = event.Restart node

-- an event with the packet of it; where there is none, which no list meets, some event without one
abbrev pub with_packet : NodeId → Dir → Option PacketFields → Event
with_packet node dir (Some packet) = event.At node (at_node.Packet dir packet)
with_packet node dir None = event.At node at_node.Purge

-- the event, where these are the packets
abbrev pub whole : List PacketFields → KeptEvent → Event
whole ps (kept.Packet node dir index) = with_packet node dir (slice_get ps index)
whole ps (kept.Plain e) = plain_event e

-- ---- events in their order

-- the events that they stand for
abbrev pub events_of : List KeptEvent → List PacketFields → List Event
events_of ks ps = map (whole ps) ks

-- one with a packet
abbrev pub is_packet : KeptEvent → Bool
is_packet (kept.Packet node dir index) = true
is_packet (kept.Plain e) = false

-- how many have a packet
abbrev pub packets_among : List KeptEvent → ℕ
packets_among ks = length (filter is_packet ks)

-- the packets of those that have one lie in their order, the first of them at the index n
abbrev pub LieInOrder : ℕ → List KeptEvent → Type 0
LieInOrder n [] = Unit {0}
LieInOrder n (kept.Packet node dir index ∷ ks) = (index ≡ n) × LieInOrder (n + 1) ks
LieInOrder n (kept.Plain e ∷ ks) = LieInOrder n ks

-- the packets are those of the events
pub record AreKept (ks : List KeptEvent) (ps : List PacketFields) : Type 0 where
  pub in_order : LieInOrder 0 ks
  pub each : length ps ≡ packets_among ks
