-- A laboratory for worked cases: packets and rules as values, and what is seen after a list of events.
use Rattle.std.specs.Prelude.{ℕ, Bool, List, [], ◌∷◌, map, replicate, Option, Some, None, Result, Ok, Err}
use Rattle.pfl_base.specs.declared.addr.Addr.TheVariants.{V4}
use Rattle.pfl_base.specs.declared.addr.End.{End}
use Rattle.pfl_base.specs.declared.proto.Proto.{Proto}
use Rattle.pfl_base.specs.declared.proto.Proto.TheVariants.{Tcp, Udp}
use Rattle.pfl_base.specs.declared.direction.Dir.{Dir}
use Rattle.pfl_base.specs.declared.direction.Dir.TheVariants.{Inbound, Outbound}
use Rattle.pfl_base.specs.declared.packet.Packet.{Packet}
use Rattle.pfl_base.specs.declared.refusal.Refusal.{Refusal}
use Rattle.pfl_base.specs.declared.class.Class.{Class}
use Rattle.pfl_base.specs.declared.node_id.NodeId.{NodeId}
use Rattle.pfl_base.specs.declared.node_id.NodeId.TheVariants.{A}
use Rattle.pfl_base.specs.declared.state_name.StateName.{StateName}
use Rattle.pfl_edits.specs.Maps as maps
use Rattle.pfl_edits.proofs.ForCallers as map_lemmas
use Rattle.pfl_rules.specs.declared.rule.Rule.{Rule}
use Rattle.pfl_rules.specs.declared.action.Action.TheVariants.{Pass}
use Rattle.pfl_rules.specs.declared.rule_dir.RuleDir.TheVariants.{Out}
use Rattle.pfl_rules.specs.Rules.{no_timeouts, Rules}
use Rattle.pfl_rules.proofs.ForCallers.{plain_rule}
use Rattle.pfl_node.specs.track.declared.peer.Peer.{Peer}
use Rattle.pfl_node.specs.track.declared.state.State.{State}
use Rattle.pfl_node.specs.queue.declared.Kind.{Kind}
use Rattle.pfl_node.specs.queue.declared.Entry.{Entry}
use Rattle.pfl_node.specs.queue.declared.Entry.TheVariants.{Marked}
use Rattle.pfl_language.specs.declared.limits.Limits.{Limits}
use Rattle.pfl_language.specs.Limits.{default_limits}
use Rattle.pfl_language.specs.declared.node_event.NodeEvent.TheVariants as own
use Rattle.pfl_language.specs.declared.node_event.NodeOutcome.{NodeOutcome}
use Rattle.pfl_language.specs.declared.node_event.NodeOutcome.TheVariants as given
use Rattle.pfl_language.specs.declared.fate.Fate.TheVariants as fate
use Rattle.pfl_language.specs.declared.fate.Reason.{Reason}
use Rattle.pfl_language.specs.declared.retried.Retried.TheVariants as retried
use Rattle.pfl_language.specs.declared.event.Event.{Event}
use Rattle.pfl_language.specs.declared.event.Event.TheVariants as event
use Rattle.pfl_language.specs.declared.event.FrameEvent.TheVariants as frame
use Rattle.pfl_language.specs.declared.outcome.Outcome.TheVariants as outcome
use Rattle.pfl_language.specs.declared.outcome.Outcome.{Outcome}
use Rattle.pfl_node.specs.desk.declared.counters.Counters.{Counters}
use Rattle.pfl_node.specs.queue.Taking.{in_turn}
use Rattle.pfl_node.specs.desk.Nodes.{Node}
use Rattle.pfl_link.specs.Links.{InFlight}
use Rattle.pfl_node.specs.queue.declared.Mark.{Mark}
use Rattle.pfl_node.specs.queue.declared.Cleared.{Cleared}
use Rattle.pfl_wire.specs.declared.message.BulkStatus.{BulkStatus}
use Rattle.pfl_node.specs.defer.declared.Held.{Held}
use Rattle.pfl_node.specs.bulk.declared.BulkServer.{BulkServer}
use Rattle.pfl_node.specs.bulk.declared.BulkClient.{BulkClient}
use Rattle.pfl_world.specs.Meanings.{Stepped}
use Rattle.pfl_world.specs.Worlds.{World, new_world, node_at}
use Rattle.pfl_world.specs.Events as one
use Rattle.pfl_world.specs.Events.{step}
use Rattle.pfl_world.specs.Runs as runs
use Rattle.pfl_world.specs.Delivering as deliveries
use Rattle.pfl_world.specs.Flushing as flushes
use Rattle.pfl_world.specs.Restarting as restarts
use Rattle.pfl_world.specs.Tickets as tickets
use Rattle.pfl_wire.specs.Spelling as spelling
use Rattle.pfl_wire.proofs.ForCallers as reading
use Rattle.pfl_node.specs.queue.Taking as taking
use Rattle.pfl_node.specs.table.Translating as translating
use Rattle.pfl_node.specs.desk.Changes as changes
use Rattle.pfl_node.specs.Starting as starting
use Rattle.pfl_node.specs.Packets as packets
use Rattle.pfl_node.specs.receive.Delivering as delivering
use Rattle.pfl_node.specs.receive.Receiving as receiving
use Rattle.pfl_node.specs.Flushing as flushing
use Rattle.pfl_node.specs.Purging as purging
use Rattle.pfl_node.specs.Releasing as releasing
use Rattle.pfl_node.specs.Clearing as clearing
use Rattle.pfl_node.specs.Turning as turning
use Rattle.pfl_node.specs.Retrying as retrying
use Rattle.pfl_node.specs.Events as events

abbrev pub limits : Limits
limits = default_limits

abbrev pub pass_out : Rule
pass_out = plain_rule Pass Out

-- rules under a checksum of 16 equal bytes, which stands for their MD5
abbrev pub rules_under : ℕ → List Rule → Rules
rules_under byte list = record { list = list; timeouts = no_timeouts; print = replicate 16 byte }

abbrev pub rules : List Rule → Rules
rules list = rules_under 7 list

-- both nodes have the one rule `pass out`
abbrev pub opening : Limits → World
opening l = new_world l (rules (pass_out ∷ [])) (rules (pass_out ∷ []))

abbrev pub host : ℕ → ℕ → End
host addr port = record { addr = V4 addr; port = port }

abbrev pub inside : ℕ → End
inside port = host 0x0a000001 port

abbrev pub outside : ℕ → End
outside port = host 0xc0000209 port

abbrev pub plain : Proto → End → End → ℕ → Packet
plain proto src dst len = record { proto = proto; src = src; dst = dst; flags = 0; seq = 0; ack = 0; window = 0; len = len; scale = None }

abbrev pub u1 : Packet
u1 = plain Udp (inside 1000) (outside 53) 40

abbrev pub u2 : Packet
u2 = plain Udp (inside 1001) (outside 53) 40

abbrev pub u3 : Packet
u3 = plain Udp (inside 1002) (outside 53) 40

abbrev pub v1 : Packet
v1 = plain Udp (outside 53) (inside 1000) 80

-- ---- events

abbrev pub packet : NodeId → Dir → Packet → Event
packet at dir p = event.At at (own.Packet dir p)

abbrev pub flush : NodeId → Event
flush at = event.Flush at

abbrev pub deliver : ℕ → Event
deliver ticket = event.Of ticket frame.Deliver

abbrev pub lose : ℕ → Event
lose ticket = event.Of ticket frame.Lose

abbrev pub repeat : ℕ → Event
repeat ticket = event.Of ticket frame.Repeat

abbrev pub cut : ℕ → ℕ → Event
cut ticket len = event.Of ticket (frame.Cut len)

abbrev pub tick : NodeId → ℕ → Event
tick at ms = event.At at (own.Tick ms)

abbrev pub purge : NodeId → Event
purge at = event.At at own.Purge

abbrev pub release : NodeId → Event
release at = event.At at own.Release

abbrev pub kill : NodeId → StateName → Event
kill at n = event.At at (own.Kill n)

abbrev pub clear : NodeId → Event
clear at = event.At at own.Clear

abbrev pub restart : NodeId → Event
restart at = event.Restart at

abbrev pub turn : NodeId → Event
turn at = event.At at own.BulkTurn

abbrev pub retry : NodeId → Event
retry at = event.At at own.BulkRetry

abbrev pub out : NodeId → Packet → Event
out at p = packet at Outbound p

abbrev pub into : NodeId → Packet → Event
into at p = packet at Inbound p

abbrev pub tcp_out : ℕ → ℕ → ℕ → ℕ → Event
tcp_out flags seq ack window =
    out A (record { proto = Tcp; src = inside 1000; dst = outside 80; flags = flags; seq = seq; ack = ack; window = window; len = 0; scale = None })

abbrev pub tcp_in : ℕ → ℕ → ℕ → ℕ → Event
tcp_in flags seq ack window =
    into A (record { proto = Tcp; src = outside 80; dst = inside 1000; flags = flags; seq = seq; ack = ack; window = window; len = 0; scale = None })

abbrev pub name : ℕ → ℕ → StateName
name creator id = record { creator = creator; id = id }

-- ---- answers

abbrev pub Answer : Type 0
Answer = Result Outcome Refusal

-- what a node gives by itself
abbrev pub did : NodeOutcome → Answer
did o = Ok (outcome.At o)

abbrev pub passed : ℕ → ℕ → Answer
passed creator id = did (given.Handled (fate.Pass (Some (name creator id))))

abbrev pub held : ℕ → ℕ → Answer
held creator id = did (given.Handled (fate.Held (name creator id)))

abbrev pub dropped : Reason → Answer
dropped why = did (given.Handled (fate.Dropped why))

abbrev pub sent : ℕ → ℕ → Answer
sent ticket len = Ok (outcome.Sent ticket len)

abbrev pub taken : ℕ → Answer
taken n = Ok (outcome.Taken n)

abbrev pub clock : ℕ → Answer
clock ms = did (given.Clock ms)

abbrev pub asked : ℕ → Answer
asked tries = did (given.Tried (retried.Asked tries))

-- the world after an event; a refused one leaves it
abbrev pub world_after : World → Result Stepped Refusal → World
world_after w (Ok s) = s.world
world_after w (Err r) = w

abbrev pub outcome_after : Result Stepped Refusal → Result Outcome Refusal
outcome_after (Ok s) = Ok s.outcome
outcome_after (Err r) = Err r

-- the answers to the events, each on the world that those before it left
unfoldable pub answers : World → List Event → List (Result Outcome Refusal)
answers w [] = []
answers w (e ∷ es) = let r = step w e in outcome_after r ∷ answers (world_after w r) es

-- the world that the events leave
unfoldable pub final : World → List Event → World
final w [] = w
final w (e ∷ es) = final (world_after w (step w e)) es

-- what a run needs to compute on literals
unfoldable pub computing : ℕ
unfolding answers final map_lemmas.computing spelling.number_bytes spelling.name_bytes spelling.peer_bytes spelling.end_bytes
    spelling.key_bytes spelling.keys_bytes spelling.class_bytes spelling.state_bytes spelling.update_bytes spelling.record_bytes
    spelling.group_bytes spelling.spelling reading.computing taking.next_frame changes.changed changes.deleted changes.forgotten
    translating.new_keys starting.ruled starting.judged packets.handled packets.packet_points receiving.decided receiving.does receiving.taken flushing.frame_of
    flushing.flushed purging.purged purging.purge_points releasing.released_due clearing.cleared events.restarted turning.turn_of
    turning.turned retrying.retried_client flushes.flush_step deliveries.deliver_step tickets.lose_step tickets.repeat_step
    tickets.cut_step restarts.restart_step one.step runs.run delivering.cleared_by delivering.records_work
computing = 0

-- what is pending at a node
abbrev pub queue_at : World → NodeId → List Entry
queue_at w node = in_turn (node_at w node).queue

-- the states of a node
abbrev pub states_at : World → NodeId → List State
states_at w node = maps.values (node_at w node).states

abbrev pub push_at : World → NodeId → Bool
push_at w node = (node_at w node).push

abbrev pub counts_at : World → NodeId → Counters
counts_at w node = (node_at w node).counters

abbrev pub requests_at : World → NodeId → List StateName
requests_at w node = (node_at w node).queue.requests

abbrev pub held_at : World → NodeId → List (StateName × ℕ)
held_at w node = map (λ h. (h.name, h.held_at)) (node_at w node).held.list

abbrev pub names_at : World → NodeId → List StateName
names_at w node = maps.keys (node_at w node).states

-- the seven counters
abbrev pub counts : ℕ → ℕ → ℕ → ℕ → ℕ → ℕ → ℕ → Counters
counts passed blocked freed lost bad stale broken =
    record { passed = passed; blocked = blocked; freed = freed; lost = lost; bad = bad; stale = stale; broken = broken }

-- a mark as it is shown
abbrev pub queued : Kind → ℕ → StateName → Entry
queued kind number n = Marked kind number n

-- levels and class
abbrev pub seen : State → ℕ × ℕ × Class
seen s = (s.src.level, s.dst.level, s.class)

abbrev pub levels : State → ℕ × ℕ
levels s = (s.src.level, s.dst.level)

-- both ends, and the update count
abbrev pub ends : State → Peer × Peer × ℕ
ends s = (s.src, s.dst, s.updates)

-- the last use, and the last change by the peer
abbrev pub times : State → ℕ × Option ℕ
times s = (s.last, s.peer_change)

-- two things that are seen
abbrev pub both : {X Y : Type 0} → X → Y → X × Y
both x y = (x, y)

-- ---- a whole world as plain data

pub record NodeShot : Type 0 where
  pub states : List State
  pub marks : List Mark
  pub next : ℕ
  pub requests : List StateName
  pub statuses : List BulkStatus
  pub clears : List Cleared
  pub held : List Held
  pub server : BulkServer
  pub client : BulkClient
  pub clock : ℕ
  pub creator : ℕ
  pub next_id : ℕ
  pub push : Bool
  pub counters : Counters

pub record Shot : Type 0 where
  pub a : NodeShot
  pub b : NodeShot
  pub frames : List (ℕ × InFlight)
  pub ticket : ℕ
  pub boot : ℕ

abbrev pub node_shot : Node → NodeShot
node_shot n = record {
  states = maps.values n.states;
  marks = maps.values n.queue.marks;
  next = n.queue.next;
  requests = n.queue.requests;
  statuses = n.queue.statuses;
  clears = n.queue.clears;
  held = n.held.list;
  server = n.server;
  client = n.client;
  clock = n.clock;
  creator = n.creator;
  next_id = n.next_id;
  push = n.push;
  counters = n.counters;
}

abbrev pub shot : World → Shot
shot w = record { a = node_shot w.a; b = node_shot w.b; frames = maps.entries w.link.frames; ticket = w.link.next; boot = w.next_boot }
