-- Worked cases of searches, computed: a query left through a, which sent the frame that reports its state to b, and the answer comes to b.
use Rattle.std.specs.Prelude.{◌≡◌, ℕ, Bool, true, false, [], ◌∷◌, map, replicate, Some, None, refl}
use Rattle.std.specs.Option.{unwrap_or}
use Rattle.pfl_base.specs.declared.addr.Addr.TheVariants.{V4}
use Rattle.pfl_base.specs.declared.addr.End.{End}
use Rattle.pfl_base.specs.declared.direction.Dir.TheVariants.{Inbound, Outbound}
use Rattle.pfl_base.specs.declared.node_id.NodeId.TheVariants.{A, B}
use Rattle.pfl_base.specs.declared.packet.Packet.{Packet}
use Rattle.pfl_base.specs.declared.proto.Proto.TheVariants.{Udp}
use Rattle.pfl_language.specs.declared.event.Event.{Event}
use Rattle.pfl_language.specs.declared.event.Event.TheVariants as event
use Rattle.pfl_language.specs.declared.event.FrameEvent.{FrameEvent}
use Rattle.pfl_language.specs.declared.event.FrameEvent.TheVariants as frame
use Rattle.pfl_language.specs.declared.node_event.NodeEvent.TheVariants as own
use Rattle.pfl_world.specs.rules.declared.action.Action.TheVariants.{Block, Pass}
use Rattle.pfl_world.specs.rules.declared.rule_dir.RuleDir.TheVariants.{Any, Out}
use Rattle.pfl_world.specs.rules.Rules.{Rules}
use Rattle.pfl_world.proofs.ForCallers.{limits, computing as of_worlds}
use Rattle.pfl_world.proofs.ForCallers.rules.{plain_rule}
use Rattle.pfl_world.specs.Runs.{run}
use Rattle.pfl_world.specs.Worlds.{World, new_world}
use Rattle.pfl_search.specs.Choices.{start, turns, used}
use Rattle.pfl_search.specs.Goals.{meets}
use Rattle.pfl_search.specs.Orders.{comes_first, last_of}
use Rattle.pfl_search.specs.Runs.{first_deeper, first_run, shortest_run}
use Rattle.pfl_search.specs.Visits.{asked_to_shortest, is_ended, tally_deeper, visited_to_shortest, visits, worlds_asked, worlds_visited}
use Rattle.pfl_language.specs.declared.choice.Choice.{Choice}
use Rattle.pfl_language.specs.declared.choice.Move.TheVariants.{AnyFrame, Given}
use Rattle.pfl_language.specs.declared.goal.Goal.{Goal}
use Rattle.pfl_language.specs.declared.goal.Question.TheVariants.{Admitted, Apart, Differ, Dropped, Passed, Split, Unpassed}
use Rattle.pfl_language.specs.declared.goal.Scope.{Scope}
use Rattle.pfl_language.specs.declared.goal.Scope.TheVariants.{Everywhere, Landed, Quiet, Settled}

-- `block any` and `pass out`, under a checksum of 16 equal bytes, which stands for their MD5
abbrev rules : Rules
rules = record { list = plain_rule Block Any ∷ plain_rule Pass Out ∷ []; timeouts = replicate 14 None; print = replicate 16 7 }

abbrev inside : End
inside = record { addr = V4 0x0a000001; port = 1000 }

abbrev outside : End
outside = record { addr = V4 0xc0000209; port = 53 }

abbrev packet : End → End → Packet
packet src dst = record { proto = Udp; src = src; dst = dst; flags = 0; seq = 0; ack = 0; window = 0; len = 40; scale = None }

abbrev elsewhere : End
elsewhere = record { addr = V4 0x0a000002; port = 1000 }

abbrev opening : World
opening = new_world limits rules rules

-- the pair whose node b is yet to be sent the state
abbrev asked : World
asked = unwrap_or (run opening (event.At A (own.Packet Outbound (packet inside outside)) ∷ [])) opening

-- the pair with the frame in flight
abbrev pair : World
pair = unwrap_or (run asked (event.Flush A ∷ [])) opening

-- the same after a query through b, whose frame to a is in flight, too
abbrev crossing : World
crossing = unwrap_or (run pair (event.At B (own.Packet Outbound (packet elsewhere outside)) ∷ event.Flush B ∷ [])) opening

-- the pair whose nodes are both yet to send their states
abbrev both_asked : World
both_asked = unwrap_or (run asked (event.At B (own.Packet Outbound (packet elsewhere outside)) ∷ [])) opening

-- the pair whose node a is yet to send its state, and to which b sent one
abbrev crossing_asked : World
crossing_asked = unwrap_or (run both_asked (event.Flush B ∷ [])) opening

abbrev once : FrameEvent → Choice
once e = record { what = AnyFrame e; uses = 1; phase = 0 }

abbrev twice : FrameEvent → Choice
twice e = record { what = AnyFrame e; uses = 2; phase = 0 }

abbrev flush : Choice
flush = record { what = Given (event.Flush A); uses = 1; phase = 0 }

abbrev flush_of_b : Choice
flush_of_b = record { what = Given (event.Flush B); uses = 1; phase = 0 }

-- the answer does not pass at b
abbrev stuck : Scope → Goal
stuck scope = record { question = Unpassed (event.At B (own.Packet Inbound (packet outside inside))); scope = scope }

unfoldable computing : ℕ
unfolding of_worlds turns used meets visits first_deeper tally_deeper
computing = 0

-- a frame that is lost is the way
lost : first_run (stuck Landed) 2 (once frame.Deliver ∷ once frame.Lose ∷ []) pair ≡ Some (event.Of 1 frame.Lose ∷ [])
unfolding computing
lost = refl

-- it comes third, after the pair itself and the delivery
lost_third : worlds_visited (stuck Landed) 2 (once frame.Deliver ∷ once frame.Lose ∷ []) pair ≡ 3
unfolding computing
lost_third = refl

-- without losses there is no way
kept : first_run (stuck Landed) 2 (once frame.Deliver ∷ once frame.Repeat ∷ []) pair ≡ None
unfolding computing
kept = refl

-- as long as the frame is in flight, the answer does not pass
in_flight : first_run (stuck Everywhere) 2 (once frame.Deliver ∷ []) pair ≡ Some []
unfolding computing
in_flight = refl

-- without losses the nodes have the same states once nothing is in flight
together : first_run (record { question = Apart; scope = Landed }) 2 (once frame.Deliver ∷ once frame.Repeat ∷ []) pair ≡ None
unfolding computing
together = refl

-- as long as the frame is not sent, the answer does not pass either, though none is in flight
unsent : first_run (stuck Landed) 3 (flush ∷ once frame.Deliver ∷ once frame.Lose ∷ []) asked ≡ Some []
unfolding computing
unsent = refl

-- asked only where nothing is pending either, a flush and a loss are the way
sent_and_lost : first_run (stuck Settled) 3 (flush ∷ once frame.Deliver ∷ once frame.Lose ∷ []) asked ≡ Some (event.Flush A ∷ event.Of 1 frame.Lose ∷ [])
unfolding computing
sent_and_lost = refl

-- and without losses there is no way
sent : first_run (stuck Settled) 3 (flush ∷ once frame.Deliver ∷ []) asked ≡ None
unfolding computing
sent = refl

-- the first way copies the frame, and loses both
copied_and_lost : first_run (stuck Landed) 3 (once frame.Repeat ∷ twice frame.Lose ∷ []) pair
    ≡ Some (event.Of 1 frame.Repeat ∷ event.Of 1 frame.Lose ∷ event.Of 2 frame.Lose ∷ [])
unfolding computing
copied_and_lost = refl

-- the shortest loses it at once
soonest_lost : shortest_run (stuck Landed) 3 (once frame.Repeat ∷ twice frame.Lose ∷ []) pair ≡ Some (event.Of 1 frame.Lose ∷ [])
unfolding computing
soonest_lost = refl

-- a search of no event visits the pair, and one of at most one event the pair, the copy and the loss
soonest_lost_fourth : visited_to_shortest (stuck Landed) 3 (once frame.Repeat ∷ twice frame.Lose ∷ []) pair ≡ 4
unfolding computing
soonest_lost_fourth = refl

-- frames that come to different nodes are delivered in one order alone, the one to a first
one_order : map (λ v. v.run) (visits None 2 (start (twice frame.Deliver ∷ [])) crossing)
    ≡ [] ∷ (event.Of 1 frame.Deliver ∷ []) ∷ (event.Of 2 frame.Deliver ∷ []) ∷ (event.Of 2 frame.Deliver ∷ event.Of 1 frame.Deliver ∷ []) ∷ []
unfolding computing
one_order = refl

-- two flushes take tickets in turn, so both orders are tried
both_orders : map (λ v. v.run) (visits None 2 (start (flush ∷ flush_of_b ∷ [])) both_asked)
    ≡ [] ∷ (event.Flush A ∷ []) ∷ (event.Flush A ∷ event.Flush B ∷ []) ∷ (event.Flush B ∷ []) ∷ (event.Flush B ∷ event.Flush A ∷ []) ∷ []
unfolding computing
both_orders = refl

-- ---- phases

-- the same, in a phase
abbrev in_the : ℕ → Choice → Choice
in_the n c = record c { phase = n }

-- what is of a later phase ends the earlier ones: a frame that was not sent before a delivery is sent no more
later_alone : map (λ v. v.run) (visits None 3 (start (in_the 1 flush ∷ in_the 2 (twice frame.Deliver) ∷ [])) crossing_asked)
    ≡ [] ∷ (event.Flush A ∷ []) ∷ (event.Flush A ∷ event.Of 1 frame.Deliver ∷ [])
    ∷ (event.Flush A ∷ event.Of 1 frame.Deliver ∷ event.Of 2 frame.Deliver ∷ []) ∷ (event.Flush A ∷ event.Of 2 frame.Deliver ∷ [])
    ∷ (event.Of 1 frame.Deliver ∷ []) ∷ []
unfolding computing
later_alone = refl

-- of two events that commute each order is tried where the later one is of a later phase, and of two of one phase one
across : map (λ v. v.run) (visits None 2 (start (in_the 1 (once frame.Deliver) ∷ in_the 2 (once frame.Deliver) ∷ [])) crossing)
    ≡ [] ∷ (event.Of 1 frame.Deliver ∷ []) ∷ (event.Of 1 frame.Deliver ∷ event.Of 2 frame.Deliver ∷ []) ∷ (event.Of 2 frame.Deliver ∷ [])
    ∷ (event.Of 2 frame.Deliver ∷ event.Of 1 frame.Deliver ∷ []) ∷ (event.Of 1 frame.Deliver ∷ []) ∷ (event.Of 2 frame.Deliver ∷ []) ∷ []
unfolding computing
across = refl

-- what was lost before the flush is not lost after it
lost_too_early : first_run (stuck Settled) 3 (in_the 1 flush ∷ once frame.Lose ∷ []) asked ≡ None
unfolding computing
lost_too_early = refl

-- ---- questions

abbrev answer_packet : Packet
answer_packet = packet outside inside

-- at b, which knows of no state, a rule blocks the answer
dropped_at_b : meets (record { question = Dropped (event.At B (own.Packet Inbound answer_packet)); scope = Everywhere }) pair ≡ true
unfolding computing
dropped_at_b = refl

-- at a it goes on
admitted_at_a : meets (record { question = Admitted (event.At A (own.Packet Inbound answer_packet)); scope = Everywhere }) pair ≡ true
unfolding computing
admitted_at_a = refl

-- so a failover to b drops it
split_at_b : meets (record { question = Split B (own.Packet Inbound answer_packet); scope = Everywhere }) pair ≡ true
unfolding computing
split_at_b = refl

-- and one to a does not
whole_at_a : meets (record { question = Split A (own.Packet Inbound answer_packet); scope = Everywhere }) pair ≡ false
unfolding computing
whole_at_a = refl

-- what brings no packet is no drop
no_drop : meets (record { question = Dropped (event.Flush A); scope = Everywhere }) asked ≡ false
unfolding computing
no_drop = refl

-- the pair whose nodes hold the first packet of a flow
abbrev deferring : World
deferring = new_world (record limits { defer = true }) rules rules

abbrev query_at_a : Event
query_at_a = event.At A (own.Packet Outbound (packet inside outside))

-- what is held is not dropped, does not go on at once, and is admitted
held_not_dropped : meets (record { question = Dropped query_at_a; scope = Everywhere }) deferring ≡ false
unfolding computing
held_not_dropped = refl

held_not_passed : meets (record { question = Passed query_at_a; scope = Everywhere }) deferring ≡ false
unfolding computing
held_not_passed = refl

held_admitted : meets (record { question = Admitted query_at_a; scope = Everywhere }) deferring ≡ true
unfolding computing
held_admitted = refl

-- the pair whose nodes both have the state
abbrev both_have : World
both_have = unwrap_or (run pair (event.Of 1 frame.Deliver ∷ [])) opening

-- the same after the answer came to a, which b is yet to hear of
abbrev answered : World
answered = unwrap_or (run both_have (event.At A (own.Packet Inbound answer_packet) ∷ [])) opening

same_at_both : meets (record { question = Differ; scope = Everywhere }) both_have ≡ false
unfolding computing
same_at_both = refl

-- the state stands at both under one name, and is not the same
not_the_same : meets (record { question = Differ; scope = Everywhere }) answered ≡ true
unfolding computing
not_the_same = refl

not_apart : meets (record { question = Apart; scope = Everywhere }) answered ≡ false
unfolding computing
not_apart = refl

-- ---- scopes

-- a node that began anew waits for a bulk update
abbrev waiting : World
waiting = unwrap_or (run opening (event.Restart A ∷ event.Flush A ∷ event.Of 1 frame.Lose ∷ [])) opening

quiet_while_waiting : meets (record { question = Admitted (event.At A (own.Packet Outbound answer_packet)); scope = Quiet }) waiting ≡ true
unfolding computing
quiet_while_waiting = refl

not_settled : meets (record { question = Admitted (event.At A (own.Packet Outbound answer_packet)); scope = Settled }) waiting ≡ false
unfolding computing
not_settled = refl

-- a node that serves a bulk update whose first frame was lost: its next turn is yet to come
abbrev serving : World
serving = unwrap_or (run both_have (event.Restart B ∷ event.Flush B ∷ event.Of 2 frame.Deliver ∷ event.Flush A ∷ event.Of 3 frame.Lose ∷ [])) opening

not_quiet_while_serving : meets (record { question = Admitted query_at_a; scope = Quiet }) serving ≡ false
unfolding computing
not_quiet_while_serving = refl

landed_while_serving : meets (record { question = Admitted query_at_a; scope = Landed }) serving ≡ true
unfolding computing
landed_while_serving = refl

-- ---- ends

-- a frame that is delivered once is gone: no run has three events
ended : is_ended (stuck Settled) 3 (flush ∷ once frame.Deliver ∷ []) asked ≡ true
unfolding computing
ended = refl

-- but one has two
not_ended : is_ended (stuck Settled) 2 (flush ∷ once frame.Deliver ∷ []) asked ≡ false
unfolding computing
not_ended = refl

-- three pairs are visited, and in the last of them alone the question is asked
asked_once : worlds_asked (stuck Settled) 9 (flush ∷ once frame.Deliver ∷ []) asked ≡ 1
unfolding computing
asked_once = refl

-- searches of 0, 1, 2 and 3 events visit 1, 2, 3 and 3 pairs, and none that is deeper follows
none_deeper : visited_to_shortest (stuck Settled) 9 (flush ∷ once frame.Deliver ∷ []) asked ≡ 9
unfolding computing
none_deeper = refl

asked_twice : asked_to_shortest (stuck Settled) 9 (flush ∷ once frame.Deliver ∷ []) asked ≡ 2
unfolding computing
asked_twice = refl

-- ---- orders

-- the second event is tried before the first, and not after it
abbrev before : World → Event → Event → Bool
before w f e = comes_first (last_of w f) (unwrap_or (run w (f ∷ [])) opening) e

-- the pair with the frame in flight, whose node a began anew and has something to send
abbrev anew : World
anew = unwrap_or (run pair (event.Restart A ∷ [])) opening

-- what happens at a is tried before a delivery to b,
at_a_first : before pair (event.Of 1 frame.Deliver) (event.Restart A) ≡ true
unfolding computing
at_a_first = refl

-- and the delivery is not tried before it too
at_b_later : before pair (event.Restart A) (event.Of 1 frame.Deliver) ≡ false
unfolding computing
at_b_later = refl

-- two events at a node keep their order
at_one_node : before pair (event.Of 1 frame.Deliver) (event.Restart B) ≡ false
unfolding computing
at_one_node = refl

-- a frame is lost before another one is sent, but not before it was sent itself
lost_before_flush : before anew (event.Flush A) (event.Of 1 frame.Lose) ≡ true
unfolding computing
lost_before_flush = refl

lost_after_its_flush : before asked (event.Flush A) (event.Of 1 frame.Lose) ≡ false
unfolding computing
lost_after_its_flush = refl

-- a frame that a delivery made room for is sent after it
sent_after_delivery : before anew (event.Of 1 frame.Deliver) (event.Flush A) ≡ false
unfolding computing
sent_after_delivery = refl
