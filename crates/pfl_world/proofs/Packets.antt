-- Worked examples of packets, computed.
use Rattle.std.specs.Prelude.{◌≡◌, ℕ, true, false, List, [], ◌∷◌, ◌++◌, map, Some, None, Err, refl}
use Rattle.pfl_base.specs.declared.proto.Proto.TheVariants.{Tcp, Udp, Icmp, Other}
use Rattle.pfl_base.specs.declared.addr.Addr.TheVariants.{V4}
use Rattle.pfl_base.specs.declared.direction.Dir.TheVariants.{Outbound}
use Rattle.pfl_base.specs.declared.fields.BadPacket.TheVariants as bad
use Rattle.pfl_base.specs.Packets.{bad_packet}
use Rattle.pfl_base.specs.declared.refusal.Refusal.TheVariants as refusal
use Rattle.pfl_base.specs.declared.class.Class.TheVariants.{TcpClosed, UdpFirst, UdpSingle, UdpMultiple, IcmpFirst, IcmpError, OtherFirst}
use Rattle.pfl_base.specs.declared.node_id.NodeId.TheVariants.{A}
use Rattle.pfl_base.specs.declared.addr.End.{End}
use Rattle.pfl_node.specs.bulk.declared.BulkServer.TheVariants as server
use Rattle.pfl_node.specs.bulk.declared.BulkClient.TheVariants as client
use Rattle.pfl_node.specs.track.declared.state.State.{State}
use Rattle.pfl_rules.specs.declared.rule.Rule.{Rule}
use Rattle.pfl_rules.specs.declared.action.Action.TheVariants.{Block}
use Rattle.pfl_rules.specs.declared.rule_dir.RuleDir.TheVariants.{Any, In}
use Rattle.pfl_node.specs.queue.declared.Kind.TheVariants.{Insert}
use Rattle.pfl_language.specs.declared.fate.Reason.TheVariants as reason
use Rattle.pfl_language.specs.declared.event.Event.{Event}
use Rattle.pfl_language.specs.declared.node_event.NodeOutcome.TheVariants as given
use Rattle.pfl_language.specs.declared.fate.Fate.TheVariants as fate
use Rattle.pfl_world.specs.Worlds.{World, new_world}
use Rattle.pfl_world.proofs.Lab.{limits, rules, opening, pass_out, host, inside, outside, plain, u1, u2, v1, out, into, tcp_out, tcp_in, name}
use Rattle.pfl_world.proofs.Lab.{answers, final, computing, queue_at, queued, states_at, names_at, seen, ends, both, tick, kill, purge, passed, clock}
use Rattle.pfl_world.proofs.Lab.{flush, counts, NodeShot, shot, dropped, did}

abbrev s : World
s = opening limits

-- ---- what is shown of the pair before any event, and after one UDP packet

abbrev silent : ℕ → NodeShot
silent creator = record {
  states = [];
  marks = [];
  next = 1;
  requests = [];
  statuses = [];
  clears = [];
  held = [];
  server = server.Idle;
  client = client.Idle;
  clock = 0;
  creator = creator;
  next_id = 1;
  push = false;
  counters = counts 0 0 0 0 0 0 0;
}

opening_shown : shot s ≡ record { a = silent 1; b = silent 2; frames = []; ticket = 1; boot = 3 }
unfolding computing
opening_shown = refl

abbrev first_state : State
first_state = record {
  name = name 1 1;
  wire = record { proto = Udp; far = outside 53; near = inside 1000 };
  stack = record { proto = Udp; far = outside 53; near = inside 1000 };
  direction = Outbound;
  src = record { level = 1; scale = None; window = 0; lo = 0; hi = 0 };
  dst = record { level = 0; scale = None; window = 0; lo = 0; hi = 0 };
  class = UdpFirst;
  last = 0;
  rule = Some 0;
  no_sync = false;
  ack_wanted = false;
  updates = 0;
  peer_change = None;
}

first_shown : shot (final s (out A u1 ∷ [])) ≡ record {
  a = record (silent 1) {
    states = first_state ∷ [];
    marks = record { name = name 1 1; kind = Insert; number = 1 } ∷ [];
    next = 2;
    next_id = 2;
    counters = counts 1 0 0 0 0 0 0;
  };
  b = silent 2;
  frames = [];
  ticket = 1;
  boot = 3;
}
unfolding computing
first_shown = refl

-- ---- levels, expiry, connections

lookup_answered_again : map seen (states_at (final (s) (out A u1 ∷ into A v1 ∷ out A u1 ∷ [])) A) ≡ (2, 2, UdpMultiple) ∷ []
unfolding computing
lookup_answered_again = refl

lookup_answered : map seen (states_at (final (s) (out A u1 ∷ into A v1 ∷ [])) A) ≡ (2, 1, UdpSingle) ∷ []
unfolding computing
lookup_answered = refl

lookup_alone : map seen (states_at (final (s) (out A u1 ∷ out A u1 ∷ [])) A) ≡ (1, 0, UdpSingle) ∷ []
unfolding computing
lookup_alone = refl

purge_at_expiry : answers (s) (out A u1 ∷ tick A 59999 ∷ purge A ∷ tick A 1 ∷ purge A ∷ []) ≡ passed 1 1 ∷ clock 59999
    ∷ did (given.Purged 0) ∷ clock 60000 ∷ did (given.Purged 1) ∷ []
unfolding computing
purge_at_expiry = refl

nothing_queued : queue_at (final (s) (out A u1 ∷ tick A 59999 ∷ purge A ∷ tick A 1 ∷ purge A ∷ [])) A ≡ []
unfolding computing
nothing_queued = refl

abbrev connection : List Event
connection = tcp_out 2 100 0 1000 ∷ tcp_in 18 500 101 2000 ∷ tcp_out 16 101 501 1000 ∷ tcp_in 16 5000 101 2000 ∷ tcp_out 17 101 501 1000
    ∷ tcp_in 17 501 102 2000 ∷ tcp_out 16 102 502 1000 ∷ []

connection_and_reuse : answers (s) (tcp_out 2 100 0 1000 ∷ tcp_in 18 500 101 2000 ∷ tcp_out 16 101 501 1000 ∷ tcp_in 16 5000 101 2000
    ∷ tcp_out 17 101 501 1000 ∷ tcp_in 17 501 102 2000 ∷ tcp_out 16 102 502 1000 ∷ tcp_out 2 9000 0 1000 ∷ []) ≡ passed 1 1 ∷ passed 1 1
    ∷ passed 1 1 ∷ dropped reason.Window ∷ passed 1 1 ∷ passed 1 1 ∷ passed 1 1 ∷ passed 1 2 ∷ []
unfolding computing
connection_and_reuse = refl

three_packets : map ends (states_at (final (s) (tcp_out 2 100 0 1000 ∷ tcp_in 18 500 101 2000 ∷ tcp_out 16 101 501 1000 ∷ [])) A)
    ≡ (
      record { level = 4; scale = None; window = 1000; lo = 101; hi = 2101 },
      record {
        level = 4;
        scale = None;
        window = 2000;
        lo = 501;
        hi = 1501;
      },
      2,
    ) ∷ []
unfolding computing
three_packets = refl

closed : both (map seen (states_at (final s connection) A)) (queue_at (final s connection) A) ≡ both ((9, 9, TcpClosed) ∷ []) (queued Insert 1 (name 1 1) ∷ [])
unfolding computing
closed = refl

reused : both (names_at (final s (connection ++ tcp_out 2 9000 0 1000 ∷ [])) A)
    (queue_at (final s (connection ++ tcp_out 2 9000 0 1000 ∷ [])) A) ≡ both (name 1 2 ∷ []) (queued Insert 2 (name 1 2) ∷ [])
unfolding computing
reused = refl

abbrev any_block : Rule
any_block = record pass_out { action = Block; direction = Any }

abbrev web : Rule
web = record pass_out { proto = Some Tcp; to_port = Some (record { first = 80; last = 80 }) }

abbrev not_there : Rule
not_there = record pass_out { action = Block; quick = true; to = Some (record { addr = V4 0xc0000209; len = 32 }) }

abbrev filtered : World
filtered = new_world limits (rules (any_block ∷ web ∷ not_there ∷ [])) (rules [])

abbrev request : ℕ → ℕ → ℕ → Event
request port to flags = out A (record (plain Tcp (inside port) (host to 80) 0) { flags = flags; seq = 100; window = 1000 })

rules_in_order : answers (filtered) (out A u1 ∷ request 1000 0xc6336407 2 ∷ request 1001 0xc6336407 16 ∷ request 1000 0xc0000209 2 ∷ [])
    ≡ dropped reason.Block ∷ passed 1 1 ∷ dropped reason.Block ∷ dropped reason.Block ∷ []
unfolding computing
rules_in_order = refl

no_rules : answers (new_world limits (rules []) (rules [])) (out A u1 ∷ []) ≡ did (given.Handled (fate.Pass None)) ∷ []
unfolding computing
no_rules = refl

at_most_one : answers (new_world limits (rules (record pass_out { max = Some 1 } ∷ [])) (rules [])) (out A u1 ∷ out A u2 ∷ []) ≡ passed 1 1
    ∷ dropped reason.Max ∷ []
unfolding computing
at_most_one = refl

abbrev natting : World
natting = new_world limits
    (rules (record pass_out {
      proto = Some Udp;
      nat = Some (record { addr = V4 0xc6336401; ports = record { first = 4000; last = 4000 } });
    } ∷ [])) (rules [])

translation : answers (natting) (out A u1 ∷ into A (plain Udp (outside 53) (host 0xc6336401 4000) 80)
    ∷ out A (plain Udp (host 0x0a000002 1000) (outside 53) 40) ∷ []) ≡ passed 1 1 ∷ passed 1 1 ∷ dropped reason.Key ∷ []
unfolding computing
translation = refl

translated : map (λ t. t.wire.near) (states_at (final (natting) (out A u1 ∷ [])) A) ≡ host 0xc6336401 4000 ∷ []
unfolding computing
translated = refl

-- ---- a range of ports: the first free one is taken

abbrev pooled : World
pooled = new_world limits
    (rules (record pass_out {
      proto = Some Udp;
      nat = Some (record { addr = V4 0xc6336401; ports = record { first = 4000; last = 4001 } });
    } ∷ [])) (rules [])

abbrev from_second : Event
from_second = out A (plain Udp (host 0x0a000002 1000) (outside 53) 40)

abbrev from_third : ℕ → Event
from_third to = out A (plain Udp (host 0x0a000003 1000) (host to 53) 40)

pool_used_up : answers pooled (out A u1 ∷ from_second ∷ from_third 0xc0000209 ∷ from_third 0xc6336407 ∷ []) ≡ passed 1 1 ∷ passed 1 2
    ∷ dropped reason.Key ∷ passed 1 3 ∷ []
unfolding computing
pool_used_up = refl

-- the third one goes to another host, where the first port is free
ports_taken : map (λ t. t.wire.near.port) (states_at (final pooled (out A u1 ∷ from_second ∷ from_third 0xc6336407 ∷ [])) A) ≡ 4000 ∷ 4001 ∷ 4000 ∷ []
unfolding computing
ports_taken = refl

port_free_again : map (λ t. t.wire.near.port)
    (states_at (final pooled (out A u1 ∷ from_second ∷ kill A (name 1 1) ∷ from_third 0xc0000209 ∷ [])) A) ≡ 4001 ∷ 4000 ∷ []
unfolding computing
port_free_again = refl

-- ---- a redirection: of the way in, on the stack

abbrev redirecting : World
redirecting = new_world limits
    (rules (record pass_out {
      direction = In;
      proto = Some Udp;
      rdr = Some (record { addr = V4 0x0a000005; ports = record { first = 8080; last = 8080 } });
    } ∷ [])) (rules [])

abbrev to_public : Event
to_public = into A (plain Udp (outside 5555) (host 0xc6336409 80) 40)

redirection : answers redirecting (to_public ∷ out A (plain Udp (host 0x0a000005 8080) (outside 5555) 80) ∷ []) ≡ passed 1 1 ∷ passed 1 1 ∷ []
unfolding computing
redirection = refl

-- the near end on the wire, and that on the stack
abbrev near_ends : State → End × End
near_ends t = (t.wire.near, t.stack.near)

redirected : map near_ends (states_at (final redirecting (to_public ∷ [])) A) ≡ (host 0xc6336409 80, host 0x0a000005 8080) ∷ []
unfolding computing
redirected = refl

echo : answers (s) (out A (plain Icmp (inside 7) (outside 7) 64) ∷ into A (plain Icmp (outside 7) (inside 7) 64) ∷ tick A 10000 ∷ purge A
    ∷ []) ≡ passed 1 1 ∷ passed 1 1 ∷ clock 10000 ∷ did (given.Purged 1) ∷ []
unfolding computing
echo = refl

echo_first : map seen (states_at (final (s) (out A (plain Icmp (inside 7) (outside 7) 64) ∷ [])) A) ≡ (1, 0, IcmpFirst) ∷ []
unfolding computing
echo_first = refl

echo_answered : map seen (states_at
    (final (s) (out A (plain Icmp (inside 7) (outside 7) 64) ∷ into A (plain Icmp (outside 7) (inside 7) 64) ∷ [])) A) ≡ (2, 1, IcmpError) ∷ []
unfolding computing
echo_answered = refl

one_state : answers (opening (record limits { states = 1 })) (out A u1 ∷ out A u2 ∷ []) ≡ passed 1 1 ∷ dropped reason.Full ∷ []
unfolding computing
one_state = refl

tunnel : map seen (states_at (final (s) (out A (plain (Other 47) (inside 0) (outside 0) 100) ∷ [])) A) ≡ (1, 0, OtherFirst) ∷ []
unfolding computing
tunnel = refl

-- a scale without SYN is no packet
scale_without_syn : bad_packet (record (plain Tcp (inside 1000) (outside 80) 0) { flags = 16; scale = Some 3 }) ≡ Some bad.ScaleWithoutSyn
scale_without_syn = refl

-- ---- a connection anew over a closed one

abbrev one_pending : World
one_pending = opening (record limits { queue = 1 })

-- a state that the peer has not heard of is forgotten, so that there is room for the new one's insertion
reuse_in_place : answers one_pending (connection ++ tcp_out 2 9000 0 1000 ∷ []) ≡ answers s (connection ++ tcp_out 2 9000 0 1000 ∷ [])
unfolding computing
reuse_in_place = refl

-- a state that was announced is to be announced as deleted, and the new one finds no room
reuse_of_told : answers (final one_pending (connection ++ flush A ∷ [])) (tcp_out 2 9000 0 1000 ∷ []) ≡ Err refusal.QueueFull ∷ []
unfolding computing
reuse_of_told = refl

-- the deletion stays where the packet is then dropped
reuse_dropped : names_at (final
    (record (final (opening limits) connection) { a = record (final (opening limits) connection).a { rules = rules (any_block ∷ []) } })
    (tcp_out 2 9000 0 1000 ∷ [])) A ≡ []
unfolding computing
reuse_dropped = refl
