-- Why an event has its outcome: what it is about, read off the pair before it (this project's profile).
use Rattle.std.specs.Prelude.{◌≡◌, ℕ, List, [], ◌∷◌, length, map, IsSomeAnd, Result, Ok, Err}
use Rattle.std.specs.Option.{option_map_or}
use Rattle.std.specs.Result.{IsOkAnd}
use Rattle.pfl_edits.specs.Maps as maps
use Rattle.pfl_rules.specs.declared.adaptive.Adaptive.{Adaptive}
use Rattle.pfl_base.specs.declared.refusal.Refusal.{Refusal}
use Rattle.pfl_language.specs.declared.event.Event.{Event}
use Rattle.pfl_language.specs.declared.event.Event.TheVariants as event
use Rattle.pfl_language.specs.declared.event.FrameEvent.{FrameEvent}
use Rattle.pfl_language.specs.declared.event.FrameEvent.TheVariants as frame
use Rattle.pfl_language.specs.declared.node_event.NodeEvent.{NodeEvent}
use Rattle.pfl_language.specs.declared.node_event.NodeEvent.TheVariants as at_node
use Rattle.pfl_language.specs.declared.node_event.NodeOutcome.TheVariants.{Handled, Purged}
use Rattle.pfl_language.specs.declared.outcome.Outcome.{Outcome}
use Rattle.pfl_language.specs.declared.outcome.Outcome.TheVariants.{At, Taken}
use Rattle.pfl_language.specs.Limits.{adaptive}
use Rattle.pfl_wire.specs.declared.fault.BadFrame.{BadFrame}
use Rattle.pfl_wire.specs.Frames.{Frame, records_of}
use Rattle.pfl_wire.specs.Reading.{reading}
use Rattle.pfl_link.specs.Links.{InFlight}
use Rattle.pfl_world.specs.desk.Nodes.{Node}
use Rattle.pfl_world.specs.receive.Delivering.{same_rules}
use Rattle.pfl_world.specs.Events.{step}
use Rattle.pfl_world.specs.Meanings.{Stepped}
use Rattle.pfl_world.specs.Worlds.{World, node_at}
use Rattle.pfl_reasons.specs.declared.against.Against.{Against}
use Rattle.pfl_reasons.specs.declared.expiry.Expiry.{Expiry}
use Rattle.pfl_reasons.specs.declared.explained.Explained.{Explained as GivenExplained}
use Rattle.pfl_reasons.specs.declared.explained.Explained.TheVariants as given
use Rattle.pfl_reasons.specs.declared.packet_reason.PacketReason.{PacketReason}
use Rattle.pfl_reasons.specs.declared.record_fate.TakenRecord.{TakenRecord}
use Rattle.pfl_reasons.specs.Against.{StandsAgainst, against}
use Rattle.pfl_reasons.specs.Packets.{HandledSo, packet_reason}
use Rattle.pfl_reasons.specs.Purges.{PurgedSo, expiries}
use Rattle.pfl_reasons.specs.Records.{FatedSo, fates}

-- an explanation
pub data Explained : Type 0 where
  Packet : PacketReason → Explained
  Records : List TakenRecord → Explained
  Expiries : ℕ → ℕ → Adaptive → List Expiry → Explained
  Plain : Explained
  Stopped : Against → Explained

-- what an explanation of the code shows
abbrev pub explained_of : {M : Type 0} → GivenExplained M → Explained
explained_of (given.Packet why) = Packet why
explained_of (given.Records list) = Records list.items
explained_of (given.Expiries clock states between list) = Expiries clock states between list.items
explained_of given.Plain = Plain
explained_of (given.Stopped against) = Stopped against

-- of an event at a node by itself
abbrev pub explained_at : Node → NodeEvent → Explained
explained_at n (at_node.Packet dir p) = Packet (packet_reason n dir p)
explained_at n at_node.Purge = Expiries n.clock (maps.len n.states) (adaptive n.limits) (expiries n)
explained_at n other = Plain

-- of a frame that comes to the node: its records, where it can be read
abbrev pub explained_frame : Node → Result Frame BadFrame → Explained
explained_frame n (Ok f) = Records (fates n (same_rules n f) (records_of f))
explained_frame n (Err why) = Plain

-- of a frame in flight
abbrev pub explained_of_frame : World → ℕ → FrameEvent → Explained
explained_of_frame w ticket frame.Deliver =
    option_map_or (λ (f : InFlight). explained_frame (node_at w f.to) (reading f.bytes)) (maps.get w.link.frames ticket) Plain
explained_of_frame w ticket other = Plain

-- of an event that is accepted
abbrev pub explained_outcome : World → Event → Explained
explained_outcome w (event.At node e) = explained_at (node_at w node) e
explained_outcome w (event.Of ticket e) = explained_of_frame w ticket e
explained_outcome w other = Plain

-- of an event with what it gives: why it has its outcome, or what stands against it
abbrev pub explained_by : World → Event → Result Stepped Refusal → Explained
explained_by w e (Ok s) = explained_outcome w e
explained_by w e (Err why) = Stopped (against w e why)

-- why the event is accepted with its outcome, or refused
unfoldable pub explained : World → Event → Explained
explained w e = explained_by w e (step w e)

-- what comes of an event: its outcome, or its refusal
abbrev pub came_of : Result Stepped Refusal → Result Outcome Refusal
came_of (Ok s) = Ok s.outcome
came_of (Err why) = Err why

-- ---- the outcome that follows

-- a packet at a node has the fate that follows from its reason, and leaves the node so
abbrev pub PacketSo : World → Event → PacketReason → World → Outcome → Type 0
PacketSo w (event.At node (at_node.Packet dir p)) why after (At (Handled f)) =
    HandledSo (node_at w node) dir p why (record { fate = f; node = node_at after node })
PacketSo w _ why after _ = ⊥

-- records one after another, each of which counts as its fate says, lead from a node to the one after them
abbrev pub TakenSo : Node → List TakenRecord → Node → Type 0
TakenSo n [] after = after ≡ n
TakenSo n (t ∷ ts) after = (next : Node) × FatedSo n t.message t.fate next × TakenSo next ts after

-- the records are those of the frame, and lead from its receiver to the receiver after it
abbrev pub ArrivedSo : World → List TakenRecord → World → InFlight → Type 0
ArrivedSo w list after f = IsOkAnd (reading f.bytes) (λ g. map (λ (t : TakenRecord). t.message) list ≡ records_of g)
    × TakenSo (node_at w f.to) list (node_at after f.to)

-- a frame that comes to its receiver gives as many records as are listed
abbrev pub RecordsSo : World → Event → List TakenRecord → Stepped → Type 0
RecordsSo w (event.Of ticket frame.Deliver) list s =
    (s.outcome ≡ Taken (length list)) × IsSomeAnd (maps.get w.link.frames ticket) (ArrivedSo w list s.world)
RecordsSo w _ list s = ⊥

-- a purge of a node deletes what is due by its list
abbrev pub ExpiredSo : World → Event → ℕ → ℕ → Adaptive → List Expiry → World → Outcome → Type 0
ExpiredSo w (event.At node at_node.Purge) clock states between list after (At (Purged many)) =
    PurgedSo (node_at w node) clock states between list many (node_at after node)
ExpiredSo w _ clock states between list after _ = ⊥

-- the outcome says it all: it is that of no packet, no records and no purge
abbrev pub NeedsNoReason : Outcome → Type 0
NeedsNoReason (At (Handled f)) = ⊥
NeedsNoReason (At (Purged many)) = ⊥
NeedsNoReason (Taken many) = ⊥
NeedsNoReason _ = Unit {0}

-- what an event that is accepted gives, the pair after it with its outcome, follows from its explanation
abbrev pub FollowsFrom : World → Event → Explained → Stepped → Type 0
FollowsFrom w e (Packet why) s = PacketSo w e why s.world s.outcome
FollowsFrom w e (Records list) s = RecordsSo w e list s
FollowsFrom w e (Expiries clock states between list) s = ExpiredSo w e clock states between list s.world s.outcome
FollowsFrom w e Plain s = NeedsNoReason s.outcome
FollowsFrom w e (Stopped against) s = ⊥

-- of an event with what it gives: this follows from the explanation, or the numbers in that stand against the event
abbrev pub AgreesWith : World → Event → Explained → Result Stepped Refusal → Type 0
AgreesWith w e why (Ok s) = FollowsFrom w e why s
AgreesWith w e (Stopped numbers) (Err why) = StandsAgainst w e numbers why
AgreesWith w e _ (Err why) = ⊥

-- each event agrees with its explanation
abbrev pub ReasonsAgree : Type 0
ReasonsAgree = (w : World) (e : Event) → AgreesWith w e (explained w e) (step w e)
