-- Worked cases of explanations, computed: the rule that decided, the edge that was missed and by how much, when states expire.
use Rattle.std.specs.Prelude.{◌≡◌, ℕ, true, false, List, [], ◌∷◌, replicate, Option, Some, None, unwrap_or, refl}
use Rattle.pfl_base.specs.declared.addr.Addr.TheVariants.{V4}
use Rattle.pfl_base.specs.declared.addr.End.{End}
use Rattle.pfl_base.specs.declared.class.Class.TheVariants.{UdpFirst}
use Rattle.pfl_base.specs.declared.direction.Dir.{Dir}
use Rattle.pfl_base.specs.declared.direction.Dir.TheVariants.{Inbound, Outbound}
use Rattle.pfl_base.specs.declared.kernel.Kernel.{Kernel}
use Rattle.pfl_base.specs.declared.node_id.NodeId.TheVariants.{A, B}
use Rattle.pfl_base.specs.declared.packet.Packet.{Packet}
use Rattle.pfl_base.specs.declared.proto.Proto.TheVariants.{Tcp}
use Rattle.pfl_base.specs.Kernels.{profile}
use Rattle.pfl_language.specs.declared.event.Event.{Event}
use Rattle.pfl_language.specs.declared.event.Event.TheVariants as event
use Rattle.pfl_language.specs.declared.event.FrameEvent.TheVariants as frame
use Rattle.pfl_language.specs.declared.limits.Limits.{Limits}
use Rattle.pfl_language.specs.declared.node_event.NodeEvent.TheVariants as own
use Rattle.pfl_rules.specs.declared.action.Action.TheVariants.{Block, Pass}
use Rattle.pfl_rules.specs.declared.rule.Rule.{Rule}
use Rattle.pfl_rules.specs.declared.rule_dir.RuleDir.TheVariants.{Any, Out}
use Rattle.pfl_rules.proofs.ForCallers.{plain_rule}
use Rattle.pfl_track.specs.declared.edges.AckTest.{AckTest}
use Rattle.pfl_track.specs.declared.edges.EdgeTest.{EdgeTest}
use Rattle.pfl_track.specs.declared.judgement.Judgement.{Judgement}
use Rattle.pfl_track.specs.Judging as judging
use Rattle.pfl_world.proofs.ForCallers.{computing as of_worlds, limits, name, u1, u2, u3}
use Rattle.pfl_world.specs.Runs.{run}
use Rattle.pfl_world.specs.Worlds.{World, new_world, new_world_at}
use Rattle.pfl_reasons.specs.declared.against.Against.{Against}
use Rattle.pfl_reasons.specs.declared.against.Against.TheVariants.{Clock, Due, Frames, Nothing, Pending, Ticket}
use Rattle.pfl_reasons.specs.declared.expiry.Expiry.{Expiry}
use Rattle.pfl_reasons.specs.declared.packet_reason.Judged.{Judged}
use Rattle.pfl_reasons.specs.declared.packet_reason.Judged.TheVariants.{AtMax, Blocked, Full, Makes, StackInUse, Unmatched, WireInUse}
use Rattle.pfl_reasons.specs.declared.packet_reason.PacketReason.TheVariants.{ByRules, OfState}
use Rattle.pfl_reasons.specs.Explaining.{Explained, Expiries, Packet as OfPacket, Plain, Stopped, explained}
use Rattle.pfl_reasons.specs.Against.{against}
use Rattle.pfl_reasons.specs.Packets.{judged_reason, packet_reason}
use Rattle.pfl_reasons.specs.Purges.{expiries}

unfoldable computing : ℕ
unfolding of_worlds against explained expiries judged_reason packet_reason judging.judged
computing = 0

abbrev pass : Rule
pass = plain_rule Pass Any

abbrev block : Rule
block = plain_rule Block Any

abbrev pair : Limits → List Rule → World
pair l rules = new_world l (record { list = rules; timeouts = replicate 14 None; print = replicate 16 7 })
    (record { list = rules; timeouts = replicate 14 None; print = replicate 16 7 })

abbrev after : World → List Event → World
after w events = unwrap_or (run w events) w

abbrev packet : Dir → Packet → Event
packet dir p = event.At A (own.Packet dir p)

abbrev by_rules : Judged → Explained
by_rules made = OfPacket (ByRules None made)

-- ---- rules, of which the first is 0

last_match_blocks : explained (pair limits (block ∷ pass ∷ block ∷ [])) (packet Outbound u1) ≡ by_rules (Blocked 2)
unfolding computing
last_match_blocks = refl

quick_match_blocks : explained (pair limits (pass ∷ record block { quick = true } ∷ pass ∷ [])) (packet Outbound u1) ≡ by_rules (Blocked 1)
unfolding computing
quick_match_blocks = refl

nothing_matches : explained (pair limits []) (packet Outbound u1) ≡ by_rules Unmatched
unfolding computing
nothing_matches = refl

last_match_passes : explained (pair limits (block ∷ pass ∷ [])) (packet Outbound u1) ≡ by_rules (Makes 1 (name 1 1))
unfolding computing
last_match_passes = refl

at_its_most : explained (after (pair limits (record pass { max = Some 1 } ∷ [])) (packet Outbound u1 ∷ [])) (packet Outbound u2) ≡ by_rules (AtMax 0 1 1)
unfolding computing
at_its_most = refl

node_full : explained (after (pair (record limits { states = 2 }) (pass ∷ [])) (packet Outbound u1 ∷ packet Outbound u2 ∷ []))
    (packet Outbound u3) ≡ by_rules (Full 0 2 2)
unfolding computing
node_full = refl

-- what goes out takes this end
abbrev translated : Rule
translated = record pass { direction = Out; nat = Some (record { addr = V4 0xcb007101; ports = record { first = 5000; last = 5000 } }) }

-- two flows to one end
same_on_the_wire : explained (after (pair limits (translated ∷ [])) (packet Outbound u1 ∷ [])) (packet Outbound u2) ≡ by_rules (WireInUse 0 (name 1 1))
unfolding computing
same_on_the_wire = refl

-- what comes in for the end that was translated
abbrev back : Packet
back = record u1 { src = u1.dst; dst = u1.src }

same_before_translation : explained (after (pair limits (pass ∷ translated ∷ [])) (packet Outbound u1 ∷ [])) (packet Inbound back)
    ≡ by_rules (StackInUse 0 (name 1 1))
unfolding computing
same_before_translation = refl

-- ---- a connection

abbrev client : End
client = u1.src

abbrev server : End
server = record { addr = V4 0xc0000209; port = 80 }

abbrev tcp : End → End → ℕ → ℕ → ℕ → ℕ → ℕ → Packet
tcp src dst flags seq ack window len =
    record { proto = Tcp; src = src; dst = dst; flags = flags; seq = seq; ack = ack; window = window; len = len; scale = None }

abbrev out : ℕ → ℕ → ℕ → ℕ → ℕ → Event
out flags seq ack window len = packet Outbound (tcp client server flags seq ack window len)

abbrev into : ℕ → ℕ → ℕ → ℕ → ℕ → Event
into flags seq ack window len = packet Inbound (tcp server client flags seq ack window len)

-- the handshake, at a pair with these rules of the kernel
abbrev opened_by : Kernel → World
opened_by k =
    after (pair (record limits { kernel = k }) (pass ∷ []))
    (out 2 100 0 1000 0 ∷ into 18 500 101 2000 0 ∷ out 16 101 501 1000 0 ∷ [])

abbrev opened : World
opened = opened_by profile

-- the server allows as far as 2101
misses_by_one : explained opened (out 16 101 501 1000 2001) ≡ OfPacket (OfState (name 1 1) (Some (record {
  eased = false;
  test = record {
    right = record { number = 2102; bound = 2101; missed = Some 1 };
    left = record { number = 101; bound = 4294965397; missed = None };
    ack = Some (record { number = 501; least = 4294900762; most = 67536; missed = None });
  };
  reset = None;
  loose = None;
})))
unfolding computing
misses_by_one = refl

abbrev edge : ℕ → ℕ → Option ℕ → EdgeTest
edge number bound missed = record { number = number; bound = bound; missed = missed }

abbrev ack_of : ℕ → ℕ → ℕ → Option AckTest
ack_of number least most = Some (record { number = number; least = least; most = most; missed = None })

-- the edges of a window, and nothing else
abbrev plainly : EdgeTest → EdgeTest → Option AckTest → Judgement
plainly right left ack = record { eased = false; test = record { right = right; left = left; ack = ack }; reset = None; loose = None }

abbrev by_state : Judgement → Explained
by_state judgement = OfPacket (OfState (name 1 1) (Some judgement))

misses_nothing : explained opened (out 16 101 501 1000 2000) ≡ by_state (plainly (edge 2101 2101 None) (edge 101 4294965397 None) (ack_of 501 4294900762 67536))
unfolding computing
misses_nothing = refl

-- an acknowledgement of the server's whose own number is 3499 past what the client allowed
abbrev far_ack : Event
far_ack = into 16 5000 101 2000 0

missed_by_the_profile : explained opened far_ack
    ≡ by_state (plainly (edge 5000 1501 (Some 3499)) (edge 5000 4294966797 None) (ack_of 101 4294900362 67136))
unfolding computing
missed_by_the_profile = refl

-- by the rule `window` it lies where the server stands, since it has no data; and the client's own acknowledgement, which had none, left its
-- lo at 100
eased : explained (opened_by (record profile { window = true })) far_ack ≡ by_state (record {
  eased = true;
  test = record { right = edge 501 1501 None; left = edge 501 4294966797 None; ack = ack_of 101 4294900361 67135 };
  reset = None;
  loose = None;
})
unfolding computing
eased = refl

-- a RST of the server's is two numbers off: by the rule `reset` it misses by one
one_number_off : explained (opened_by (record profile { reset = true })) (into 4 503 0 0 0) ≡ by_state (record {
  eased = false;
  test = record { right = edge 503 1501 None; left = edge 503 4294966797 None; ack = None };
  reset = Some (record { number = 503; least = 500; most = 502; missed = Some 1 });
  loose = None;
})
unfolding computing
one_number_off = refl

-- after both have closed, data of the server's that the client never allowed
abbrev late : Kernel → ℕ → Explained
late k seq = explained (after (opened_by k) (out 17 101 501 1000 0 ∷ into 17 501 102 2000 0 ∷ out 16 102 502 1000 0 ∷ [])) (into 16 seq 102 2000 100)

dropped_by_the_profile : late profile 2000
    ≡ by_state (plainly (edge 2100 1502 (Some 598)) (edge 2000 4294966798 None) (ack_of 102 4294900363 67137))
unfolding computing
dropped_by_the_profile = refl

-- by the rule `loose` it is near enough
near_enough : late (record profile { loose = true }) 2000 ≡ by_state (record {
  eased = false;
  test = record { right = edge 2100 1502 (Some 598); left = edge 2000 4294966798 None; ack = ack_of 102 4294900363 67137 };
  reset = None;
  loose = Some (record { right = edge 2100 68537 None; left = edge 2000 4294900763 None });
})
unfolding computing
near_enough = refl

-- and further off it is not
not_near_enough : late (record profile { loose = true }) 100000 ≡ by_state (record {
  eased = false;
  test = record { right = edge 100100 1502 (Some 98598); left = edge 100000 4294966798 None; ack = ack_of 102 4294900363 67137 };
  reset = None;
  loose = Some (record { right = edge 100100 68537 (Some 31563); left = edge 100000 4294900763 None });
})
unfolding computing
not_near_enough = refl

-- a new connection over the closed one
begins_anew : explained (after opened (out 17 101 501 1000 0 ∷ into 17 501 102 2000 0 ∷ out 16 102 502 1000 0 ∷ [])) (out 2 9000 0 1000 0)
    ≡ OfPacket (ByRules (Some (name 1 1)) (Makes 0 (name 1 2)))
unfolding computing
begins_anew = refl

-- another protocol has no window
without_window : explained (after (pair limits (pass ∷ [])) (packet Outbound u1 ∷ [])) (packet Outbound u1) ≡ OfPacket (OfState (name 1 1) None)
unfolding computing
without_window = refl

-- ---- a purge

-- of two states between one and four, two thirds of the timeout are left: one is due, and one was used later
abbrev two_states : World
two_states = after (pair (record limits { astart = Some 1; aend = Some 4 }) (pass ∷ [])) (packet Outbound u1 ∷ event.At A (own.Tick 1)
    ∷ packet Outbound u2 ∷ event.At A (own.Tick 39999) ∷ [])

abbrev first_of_udp : ℕ → ℕ → Expiry
first_of_udp id expires = record { name = name 1 id; class = UdpFirst; timeout = 60; scaled = 40; expires = expires }

one_is_due : explained two_states (event.At A own.Purge) ≡ Expiries 40000 2 (record { start = 1; end = 4 }) (first_of_udp 1 40000 ∷ first_of_udp 2 40001 ∷ [])
unfolding computing
one_is_due = refl

-- ---- what needs no reason

outcome_says_all : explained two_states (event.At A own.Clear) ≡ Plain
unfolding computing
outcome_says_all = refl

-- ---- what stands against an event that is refused

abbrev stands : World → Event → Against → Type 0
stands w e numbers = explained w e ≡ Stopped numbers

-- nothing is in flight, and two frames were sent
abbrev none_in_flight : World
none_in_flight = after (pair limits (pass ∷ [])) (packet Outbound u1 ∷ event.Flush A ∷ event.Of 1 frame.Repeat ∷ event.Of 1 frame.Lose
    ∷ event.Of 2 frame.Lose ∷ [])

next_ticket : stands none_in_flight (event.Of 1 frame.Lose) (Ticket 3)
unfolding computing
next_ticket = refl

frames_in_flight : stands (after (pair (record limits { frames = 1 }) (pass ∷ [])) (packet Outbound u1 ∷ event.Flush A ∷ []))
    (event.Of 1 frame.Repeat) (Frames 1 1)
unfolding computing
frames_in_flight = refl

-- room for one
abbrev little_queue : World
little_queue = pair (record limits { queue = 1 }) (pass ∷ [])

own_queue : stands (after little_queue (packet Outbound u1 ∷ [])) (packet Outbound u2) (Pending 1 1)
unfolding computing
own_queue = refl

-- the request of a node that begins anew comes to a node that has something pending
receivers_queue : stands (after little_queue (event.Restart A ∷ event.Flush A ∷ event.At B (own.Packet Outbound u1) ∷ []))
    (event.Of 1 frame.Deliver) (Pending 1 1)
unfolding computing
receivers_queue = refl

clock_ends : stands (after (pair limits []) (event.At A (own.Tick 7) ∷ [])) (event.At A (own.Tick 1000000000000)) (Clock 7 1000000000000)
unfolding computing
clock_ends = refl

-- two packets are held since 3 and since 10, each for 20 milliseconds
abbrev two_held : World
two_held = after (pair (record limits { defer = true }) (pass ∷ [])) (event.At A (own.Tick 3) ∷ packet Outbound u1
    ∷ event.At A (own.Tick 7) ∷ packet Outbound u2 ∷ [])

oldest_is_due : stands two_held (event.At A own.Release) (Due 10 23)
unfolding computing
oldest_is_due = refl

-- a node that began anew at 5 asked then
client_is_due : stands (after (pair limits []) (event.At B (own.Tick 5) ∷ event.Restart B ∷ event.At B (own.Tick 1) ∷ []))
    (event.At B own.BulkRetry) (Due 6 10005)
unfolding computing
client_is_due = refl

nothing_pending : stands (pair limits []) (event.Flush A) Nothing
unfolding computing
nothing_pending = refl

nothing_held : stands (pair limits []) (event.At A own.Release) Nothing
unfolding computing
nothing_held = refl

no_such_state : stands (pair limits []) (event.At A (own.Kill (name 1 1))) Nothing
unfolding computing
no_such_state = refl

not_syncing : stands (pair limits []) (event.At A own.BulkRetry) Nothing
unfolding computing
not_syncing = refl

count_full : stands (new_world_at limits (record { list = []; timeouts = replicate 14 None; print = replicate 16 7 })
    (record { list = []; timeouts = replicate 14 None; print = replicate 16 7 }) 4294967295) (event.Restart A) Nothing
unfolding computing
count_full = refl
