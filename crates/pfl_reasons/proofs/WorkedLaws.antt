-- Worked cases of what the laws of reasons refuse, computed: a fate or a number that is not so of one node or one pair.
use Rattle.std.specs.Prelude.{◌≡◌, ℕ, true, false, List, [], ◌∷◌, replicate, Option, Some, None, unwrap_or, refl}
use Rattle.std.specs.Option.{option_map_or}
use Rattle.std.proofs.Common.{ap, arith, inl, inr}
use Rattle.pfl_base.specs.declared.addr.Addr.TheVariants.{V4}
use Rattle.pfl_base.specs.declared.class.Class.TheVariants.{UdpFirst}
use Rattle.pfl_base.specs.declared.direction.Dir.TheVariants.{Outbound}
use Rattle.pfl_base.specs.declared.flow.Key.{Key}
use Rattle.pfl_base.specs.declared.node_id.NodeId.TheVariants.{A, B}
use Rattle.pfl_base.specs.declared.packet.Packet.{Packet}
use Rattle.pfl_base.specs.declared.proto.Proto.TheVariants.{Udp}
use Rattle.pfl_base.specs.declared.refusal.Refusal.TheVariants.{ClockFull, LinkFull, NoSuchFrame, QueueFull, TooEarly}
use Rattle.pfl_language.specs.declared.event.Event.{Event}
use Rattle.pfl_language.specs.declared.event.Event.TheVariants as event
use Rattle.pfl_language.specs.declared.event.FrameEvent.TheVariants as frame
use Rattle.pfl_language.specs.declared.limits.Limits.{Limits}
use Rattle.pfl_language.specs.Limits.{adaptive}
use Rattle.pfl_language.specs.declared.node_event.NodeEvent.TheVariants as own
use Rattle.pfl_language.specs.declared.fate.Reason.TheVariants as reason
use Rattle.pfl_rules.specs.declared.action.Action.TheVariants.{Block, Pass}
use Rattle.pfl_rules.specs.declared.rule.Rule.{Rule}
use Rattle.pfl_rules.specs.declared.rule_dir.RuleDir.TheVariants.{Any}
use Rattle.pfl_rules.proofs.ForCallers.{plain_rule}
use Rattle.pfl_track.specs.Tracking.{silent}
use Rattle.pfl_wire.specs.declared.message.Message.{Message}
use Rattle.pfl_wire.specs.declared.message.Message.TheVariants.{Clear, DeleteShort, Insert, InsertAck, UpdateShort}
use Rattle.pfl_world.proofs.ForCallers.{computing as of_worlds, limits, name, u1, u2}
use Rattle.pfl_world.specs.desk.Nodes.{Node}
use Rattle.pfl_world.specs.node.Starting as starting
use Rattle.pfl_world.specs.node.Starting.{drop}
use Rattle.pfl_world.specs.receive.Receiving.{taken}
use Rattle.pfl_world.specs.Runs.{run}
use Rattle.pfl_world.specs.Worlds.{World, new_world}
use Rattle.pfl_reasons.specs.declared.against.Against.TheVariants.{Clock, Due, Frames, Pending, Ticket}
use Rattle.pfl_reasons.specs.declared.expiry.Expiry.{Expiry}
use Rattle.pfl_reasons.specs.declared.packet_reason.Judged.TheVariants.{Blocked, Full, Unmatched}
use Rattle.pfl_reasons.specs.declared.record_fate.RecordFate.{RecordFate}
use Rattle.pfl_reasons.specs.declared.record_fate.RecordFate.TheVariants as fate
use Rattle.pfl_reasons.specs.Against.{StandsAgainst}
use Rattle.pfl_reasons.specs.Packets.{JudgedSo}
use Rattle.pfl_reasons.specs.Purges.{PurgedSo}
use Rattle.pfl_reasons.specs.Records.{FatedSo}

unfoldable computing : ℕ
unfolding of_worlds
computing = 0

abbrev pass : Rule
pass = plain_rule Pass Any

abbrev block : Rule
block = plain_rule Block Any

abbrev pair : Limits → List Rule → World
pair l rules = new_world l (record { list = rules; timeouts = replicate 14 None; print = replicate 16 7 })
    (record { list = rules; timeouts = replicate 14 None; print = replicate 16 7 })

abbrev after : World → List Event → World
after w events = unwrap_or (run w events) w

abbrev packet : Packet → Event
packet p = event.At A (own.Packet Outbound p)

-- ---- records

-- a query of 10.0.0.1:1000 to 192.0.2.9:53, a state of the peer's
abbrev flow : Key
flow = record { proto = Udp; far = record { addr = V4 0xc0000209; port = 53 }; near = record { addr = V4 0x0a000001; port = 1000 } }

abbrev insertion : Message
insertion = Insert (record {
  name = name 2 1;
  keys = record { wire = flow; stack = flow };
  direction = Outbound;
  ack_wanted = true;
  src = silent;
  dst = silent;
  class = UdpFirst;
  remaining = 60;
  rule = None;
})

-- nothing is known; then the state is
abbrev fresh : Node
fresh = (pair limits []).a

abbrev holder : Node
holder = taken fresh true insertion

-- what is overdue, at a node
abbrev overdue : Expiry
overdue = record { name = name 1 1; class = UdpFirst; timeout = 0; scaled = 0; expires = 0 }

-- the fate is one that the record cannot have there
abbrev IsRefused : Node → Message → RecordFate → Type 0
IsRefused n m f = FatedSo n m f (taken n true m) → ⊥

clear_is_not_heard : IsRefused fresh (Clear 2 4) fate.Heard
clear_is_not_heard so = so.0

clear_is_not_acknowledged : IsRefused fresh (Clear 2 4) fate.Acknowledged
clear_is_not_acknowledged so = so.0

deletion_is_no_clear : IsRefused holder (DeleteShort (name 2 1)) (fate.Cleared 1)
deletion_is_no_clear so = so.0

-- it is 0 there, but another node's clock would be another last use
not_last_used_then : IsRefused fresh insertion (fate.Imported 1)
unfolding computing
not_last_used_then so = let last : 0 ≡ 1 = so.1.2 in absurd (omega (arith, last))

one_is_not_two : IsRefused holder (Clear 2 4) (fate.Cleared 2)
unfolding computing
one_is_not_two so = let many : 1 ≡ 2 = so.1.1 in absurd (omega (arith, many))

-- nobody waits for this acknowledgement
not_acknowledged : IsRefused fresh (InsertAck (name 2 1)) fate.Acknowledged
unfolding computing
not_acknowledged so = (so.1.1 (record {
  filed = λ n s is. absurd (cc);
  one_wire = λ n o s t is there same. absurd (cc);
  one_stack = λ n o s t is there same. absurd (cc);
})).0

-- a part of the state, with nothing new
abbrev update : Message
update = UpdateShort (record { name = name 2 1; src = silent; dst = silent; class = UdpFirst; remaining = 60 })

-- by the profile the fate says no more than which ends are older
no_end_is_shown : IsRefused holder update (fate.Merged false false 0 (Some (record { src = true; dst = true })))
unfolding computing
no_end_is_shown so = let none : Some (record { src = true; dst = true }) ≡ None = so.1.2 in absurd (cc)

-- ---- packets, where the first rule is 0

abbrev blocked : Node
blocked = (pair limits (block ∷ pass ∷ block ∷ [])).a

-- the last rule blocks, and not the first
first_does_not_block : JudgedSo blocked Outbound u1 (Blocked 0) (drop blocked reason.Block) → ⊥
unfolding computing
first_does_not_block so =
    let decides = so.1.1 in
    let same : Some block ≡ Some so.1.0 = decides.there in
    elim decides.last [
      | inl quick ↦ let slow = ap (λ (o : Option Rule). option_map_or (λ (r : Rule). r.quick) o true) same in absurd (cc)
      | inr none ↦ let fits : true ≡ false = none 2 block (omega arith) refl in absurd (cc)
    ]

some_rule_matches : JudgedSo blocked Outbound u1 Unmatched (starting.pass blocked None) → ⊥
unfolding computing
some_rule_matches so = let none : true ≡ false = so.1 0 block refl in absurd (cc)

-- two states of two
abbrev full : Node
full = (after (pair (record limits { states = 2 }) (pass ∷ [])) (packet u1 ∷ packet u2 ∷ [])).a

not_that_many_states : JudgedSo full Outbound u1 (Full 0 2 0) (drop full reason.Full) → ⊥
unfolding computing
not_that_many_states so = let states : 0 ≡ 2 = so.1.3.1 in absurd (omega (arith, states))

-- ---- a purge

-- a clock of 0 shows another time
not_its_clock : (list : List Expiry) (many : ℕ) → PurgedSo full 1 2 (adaptive limits) list many full → ⊥
unfolding computing
not_its_clock list many so = let clock : 1 ≡ 0 = so.own_clock in absurd (omega (arith, clock))

-- what is due is gone
nothing_is_gone : PurgedSo full 0 2 (adaptive limits) (overdue ∷ overdue ∷ []) 2 full → ⊥
unfolding computing
nothing_is_gone so = let gone = so.gone (name 1 1) in absurd (cc)

-- ---- what stands against events

abbrev none_in_flight : World
none_in_flight = after (pair limits (pass ∷ [])) (packet u1 ∷ event.Flush A ∷ event.Of 1 frame.Lose ∷ [])

not_the_next_ticket : StandsAgainst none_in_flight (event.Of 1 frame.Lose) (Ticket 0) NoSuchFrame → ⊥
unfolding computing
not_the_next_ticket so = let next : 0 ≡ 2 = so.2 in absurd (omega (arith, next))

abbrev one_in_flight : World
one_in_flight = after (pair (record limits { frames = 1 }) (pass ∷ [])) (packet u1 ∷ event.Flush A ∷ [])

not_the_links_numbers : StandsAgainst one_in_flight (event.Of 1 frame.Repeat) (Frames 0 7) LinkFull → ⊥
unfolding computing
not_the_links_numbers so = let limit : 0 ≡ 1 = so.1 in absurd (omega (arith, limit))

-- B has nothing pending
abbrev full_queue : World
full_queue = after (pair (record limits { queue = 1 }) (pass ∷ [])) (packet u1 ∷ [])

not_the_nodes_number : StandsAgainst full_queue (packet u2) (Pending 1 0) QueueFull → ⊥
unfolding computing
not_the_nodes_number so = let many : 0 ≡ 1 = so.1.1 in absurd (omega (arith, many))

-- a node whose queue has room is not refused for that
has_room : StandsAgainst full_queue (event.At B (own.Packet Outbound u1)) (Pending 1 0) QueueFull → ⊥
unfolding computing
has_room so = let some : false ≡ true = so.1.2 in absurd (cc)

not_the_nodes_clock : StandsAgainst full_queue (event.At A (own.Tick 1000000000000)) (Clock 1 1000000000000) ClockFull → ⊥
unfolding computing
not_the_nodes_clock so = let clock : 1 ≡ 0 = so.1 in absurd (omega (arith, clock))

-- a packet is held since 0 for 20 milliseconds
abbrev holds : World
holds = after (pair (record limits { defer = true }) (pass ∷ [])) (packet u1 ∷ [])

not_that_late : StandsAgainst holds (event.At A own.Release) (Due 0 21) TooEarly → ⊥
unfolding computing
not_that_late so = let due : 21 ≡ 20 = so.1.1 in absurd (omega (arith, due))
