-- The lines that show what comes of an event, and why (this project's profile).
use Rattle.std.specs.Prelude.{ℕ, Bool, true, false, List, [], ◌++◌, codes, Option, Result, Ok, Err}
use Rattle.std.specs.List.{flat_map}
use Rattle.std.specs.Option.{option_map_or}
use Rattle.std.specs.Fmt.{decimal}
use Rattle.pfl_base.specs.declared.refusal.Refusal.{Refusal}
use Rattle.pfl_base.specs.declared.state_name.StateName.{StateName}
use Rattle.pfl_base.specs.Refusals.{refusal_number}
use Rattle.pfl_base.specs.Texts.{name_text, class_text, refusal_text}
use Rattle.pfl_rules.specs.declared.adaptive.Adaptive.{Adaptive}
use Rattle.pfl_track.specs.declared.edges.AckTest.{AckTest}
use Rattle.pfl_track.specs.declared.edges.EdgeTest.{EdgeTest}
use Rattle.pfl_track.specs.declared.edges.WindowTest.{WindowTest}
use Rattle.pfl_track.specs.declared.judgement.Judgement.{Judgement}
use Rattle.pfl_track.specs.declared.judgement.LooseTest.{LooseTest}
use Rattle.pfl_track.specs.declared.judgement.ResetTest.{ResetTest}
use Rattle.pfl_wire.specs.declared.message.Message.{Message}
use Rattle.pfl_wire.specs.declared.message.Message.TheVariants.{Clear, Insert, InsertAck, Update, UpdateShort, UpdateRequest, Delete, DeleteShort, Bulk}
use Rattle.pfl_wire.specs.Spelling.{status_byte}
use Rattle.pfl_language.specs.declared.event.Event.{Event}
use Rattle.pfl_language.specs.declared.outcome.Outcome.{Outcome}
use Rattle.pfl_timeline.specs.reasons.declared.against.Against.{Against}
use Rattle.pfl_timeline.specs.reasons.declared.against.Against.TheVariants as against
use Rattle.pfl_timeline.specs.reasons.declared.expiry.Expiry.{Expiry}
use Rattle.pfl_timeline.specs.reasons.declared.packet_reason.Judged.{Judged}
use Rattle.pfl_timeline.specs.reasons.declared.packet_reason.Judged.TheVariants.{Unmatched, Blocked, AtMax, Full, WireInUse, StackInUse, Makes}
use Rattle.pfl_timeline.specs.reasons.declared.packet_reason.PacketReason.{PacketReason}
use Rattle.pfl_timeline.specs.reasons.declared.packet_reason.PacketReason.TheVariants.{OfState, ByRules}
use Rattle.pfl_timeline.specs.world.receive.declared.decision.BadRecord.{BadRecord}
use Rattle.pfl_timeline.specs.world.receive.declared.decision.BadRecord.TheVariants as bad
use Rattle.pfl_timeline.specs.reasons.declared.record_fate.RecordFate.{RecordFate}
use Rattle.pfl_timeline.specs.reasons.declared.record_fate.RecordFate.TheVariants as fate
use Rattle.pfl_timeline.specs.reasons.declared.record_fate.TakenEnds.{TakenEnds}
use Rattle.pfl_timeline.specs.reasons.declared.record_fate.TakenRecord.{TakenRecord}
use Rattle.pfl_timeline.specs.reasons.Explaining.{Explained, Packet, Records, Expiries, Plain, Stopped}
use Rattle.pfl_script.specs.Texts.{or_dash, outcome_text}
use Rattle.pfl_script.specs.Logs.{logged_line}

-- a word, and the name of a state
abbrev pub named_line : List ℕ → StateName → List ℕ
named_line word name = word ++ codes " " ++ name_text name ++ codes "\n"

-- ---- a packet

-- an edge of the window: the packet's number, the bound, and by how much it is missed
abbrev pub edge_line : List ℕ → EdgeTest → List ℕ
edge_line side t = side ++ codes " " ++ decimal t.number ++ codes " " ++ decimal t.bound ++ codes " " ++ or_dash decimal t.missed ++ codes "\n"

-- the acknowledged number: the least and the greatest that it may be, and by how much it is missed
abbrev pub ack_line : AckTest → List ℕ
ack_line t = codes "ack " ++ decimal t.number ++ codes " " ++ decimal t.least ++ codes " " ++ decimal t.most ++ codes " "
    ++ or_dash decimal t.missed ++ codes "\n"

-- the test of a packet of TCP, with its acknowledgement where that counts
abbrev pub test_lines : WindowTest → List ℕ
test_lines t = edge_line (codes "right") t.right ++ edge_line (codes "left") t.left ++ option_map_or ack_line t.ack []

-- the packet has no data, so that it is judged by what it acknowledges alone
abbrev pub eased_line : Bool → List ℕ
eased_line true = codes "eased\n"
eased_line false = []

-- the number of a RST: the least and the greatest that it may be, and by how much it is missed
abbrev pub reset_line : ResetTest → List ℕ
reset_line t = codes "reset " ++ decimal t.number ++ codes " " ++ decimal t.least ++ codes " " ++ decimal t.most ++ codes " "
    ++ or_dash decimal t.missed ++ codes "\n"

-- the further edges, within which a packet passes loosely: by how much the right one is missed, and by how much the left one
abbrev pub loose_line : LooseTest → List ℕ
loose_line t = codes "loose " ++ or_dash decimal t.right.missed ++ codes " " ++ or_dash decimal t.left.missed ++ codes "\n"

-- what a packet of TCP is tested against: the edges of the window, and by rules of the kernel a number and further edges besides
abbrev pub judgement_lines : Judgement → List ℕ
judgement_lines j = eased_line j.eased ++ test_lines j.test ++ option_map_or reset_line j.reset [] ++ option_map_or loose_line j.loose []

-- the rule that passes the packet
unfoldable pub pass_line : ℕ → List ℕ
pass_line rule = codes "rule " ++ decimal rule ++ codes " pass\n"

-- what the rules make of a packet; rules count from 0
abbrev pub judged_lines : Judged → List ℕ
judged_lines Unmatched = codes "rule -\n"
judged_lines (Blocked rule) = codes "rule " ++ decimal rule ++ codes " block\n"
judged_lines (AtMax rule most states) = pass_line rule ++ codes "max " ++ decimal most ++ codes " " ++ decimal states ++ codes "\n"
judged_lines (Full rule limit states) = pass_line rule ++ codes "full " ++ decimal limit ++ codes " " ++ decimal states ++ codes "\n"
judged_lines (WireInUse rule name) = pass_line rule ++ named_line (codes "wire") name
judged_lines (StackInUse rule name) = pass_line rule ++ named_line (codes "stack") name
judged_lines (Makes rule name) = pass_line rule ++ named_line (codes "new") name

-- why a packet has its fate: the tests of its state's window, or what the rules made of it, over a closed connection that went first
abbrev pub packet_lines : PacketReason → List ℕ
packet_lines (OfState name judgement) = named_line (codes "state") name ++ option_map_or judgement_lines judgement []
packet_lines (ByRules closed judged) = option_map_or (named_line (codes "closed")) closed [] ++ judged_lines judged

-- ---- a frame that came to its receiver

-- a record, by its kind and its name
abbrev pub record_text : Message → List ℕ
record_text (Clear creator bound) = codes "clr " ++ decimal creator ++ codes " " ++ decimal bound
record_text (Insert r) = codes "ins " ++ name_text r.name
record_text (InsertAck name) = codes "iack " ++ name_text name
record_text (Update r) = codes "upd " ++ name_text r.name
record_text (UpdateShort u) = codes "updc " ++ name_text u.name
record_text (UpdateRequest name) = codes "req " ++ name_text name
record_text (Delete r) = codes "del " ++ name_text r.name
record_text (DeleteShort name) = codes "delc " ++ name_text name
record_text (Bulk creator status) = codes "bus " ++ decimal (status_byte status)

-- why a record cannot be used
abbrev pub bad_record_text : BadRecord → List ℕ
bad_record_text bad.Unknown = codes "unknown"
bad_record_text bad.Known = codes "known"
bad_record_text bad.NotGiven = codes "notgiven"
bad_record_text bad.Deleting = codes "deleting"
bad_record_text (bad.WireInUse name) = codes "wire " ++ name_text name
bad_record_text (bad.StackInUse name) = codes "stack " ++ name_text name
bad_record_text bad.Full = codes "full"

-- the ends of a record of which something is so: the source and the destination
abbrev pub ends_text : Bool → Bool → List ℕ
ends_text true true = codes "both"
ends_text true false = codes "src"
ends_text false true = codes "dst"
ends_text false false = codes "-"

-- the ends that are taken, where that is shown
abbrev pub taken_text : Option TakenEnds → List ℕ
taken_text ends = option_map_or (λ (e : TakenEnds). codes " " ++ ends_text e.src e.dst) ends []

-- what becomes of a record
abbrev pub record_fate_text : RecordFate → List ℕ
record_fate_text (fate.Bad why) = codes "bad " ++ bad_record_text why
record_fate_text (fate.Imported last) = codes "imported " ++ decimal last
record_fate_text (fate.Merged src dst last ends) = codes "merged " ++ ends_text src dst ++ codes " " ++ decimal last ++ taken_text ends
record_fate_text fate.Asked = codes "asked"
record_fate_text fate.Queued = codes "queued"
record_fate_text (fate.Bulk true) = codes "bulk begins"
record_fate_text (fate.Bulk false) = codes "bulk ends"
record_fate_text fate.Acknowledged = codes "acknowledged"
record_fate_text fate.Deleted = codes "deleted"
record_fate_text (fate.Cleared states) = codes "cleared " ++ decimal states
record_fate_text fate.Heard = codes "heard"
record_fate_text fate.Nothing = codes "nothing"

-- a record with its fate
abbrev pub record_line : TakenRecord → List ℕ
record_line r = codes "record " ++ record_text r.message ++ codes " " ++ record_fate_text r.fate ++ codes "\n"

-- ---- a purge

-- the node's clock, how many states it finds, and between which numbers timeouts shrink
abbrev pub scaling_lines : ℕ → ℕ → Adaptive → List ℕ
scaling_lines clock states between =
    codes "clock " ++ decimal clock ++ codes "\nscaling " ++ decimal states ++ codes " " ++ decimal between.start ++ codes " "
    ++ decimal between.end ++ codes "\n"

-- a state: its class, its timeout, the timeout as it is scaled, and when it expires by that
abbrev pub expiry_line : Expiry → List ℕ
expiry_line e =
    codes "expiry " ++ name_text e.name ++ codes " " ++ class_text e.class ++ codes " " ++ decimal e.timeout ++ codes " "
    ++ decimal e.scaled ++ codes " " ++ decimal e.expires ++ codes "\n"

-- ---- an event that is refused

-- the numbers that stand against it, where there are some
abbrev pub against_line : Against → List ℕ
against_line (against.Ticket next) = codes "ticket " ++ decimal next ++ codes "\n"
against_line (against.Frames limit frames) = codes "frames " ++ decimal limit ++ codes " " ++ decimal frames ++ codes "\n"
against_line (against.Pending limit pending) = codes "pending " ++ decimal limit ++ codes " " ++ decimal pending ++ codes "\n"
against_line (against.Clock clock last) = codes "clock " ++ decimal clock ++ codes " " ++ decimal last ++ codes "\n"
against_line (against.Due clock due) = codes "due " ++ decimal clock ++ codes " " ++ decimal due ++ codes "\n"
against_line against.Nothing = []

-- ---- an event

-- why it has its outcome, or what stands against it
abbrev pub reason_lines : Explained → List ℕ
reason_lines (Packet why) = packet_lines why
reason_lines (Records list) = flat_map record_line list
reason_lines (Expiries clock states between list) = scaling_lines clock states between ++ flat_map expiry_line list
reason_lines Plain = []
reason_lines (Stopped numbers) = against_line numbers

-- the branch and the place of the event
abbrev pub why_line : List ℕ → ℕ → List ℕ
why_line name place = codes "why " ++ name ++ codes " " ++ decimal place ++ codes "\n"

-- its outcome
abbrev pub outcome_line : Outcome → List ℕ
outcome_line outcome = codes "outcome " ++ outcome_text outcome ++ codes "\n"

-- what comes of it: its outcome, or the number and the word of its refusal
abbrev pub came_line : Result Outcome Refusal → List ℕ
came_line (Ok outcome) = outcome_line outcome
came_line (Err why) = codes "refused " ++ decimal (refusal_number why) ++ codes " " ++ refusal_text why ++ codes "\n"

-- the event with its place, what comes of it, and why
unfoldable pub explained_text : List ℕ → ℕ → Event → Result Outcome Refusal → Explained → List ℕ
explained_text name place e came why =
    why_line name place ++ logged_line name place e ++ came_line came ++ reason_lines why ++ codes "end\n"
