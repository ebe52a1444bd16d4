-- The lines that show a frame, its records and what became of it (this project's profile).
use Rattle.std.specs.Prelude.{ℕ, Bool, true, false, List, [], ◌++◌, codes, Result, Ok, Err}
use Rattle.std.specs.List.{flat_map}
use Rattle.std.specs.Fmt.{decimal}
use Rattle.pfl_base.specs.declared.direction.Dir.{Dir}
use Rattle.pfl_base.specs.Texts.{proto_text, dir_text, class_text}
use Rattle.pfl_track.specs.declared.key_pair.KeyPair.{KeyPair}
use Rattle.pfl_track.specs.declared.peer.Peer.{Peer}
use Rattle.pfl_wire.specs.declared.fault.BadFrame.{BadFrame}
use Rattle.pfl_wire.specs.declared.message.Message.{Message}
use Rattle.pfl_wire.specs.declared.message.Message.TheVariants.{Insert, Update, UpdateShort, Delete}
use Rattle.pfl_wire.specs.declared.message.StateRecord.{StateRecord}
use Rattle.pfl_wire.specs.declared.message.UpdateRecord.{UpdateRecord}
use Rattle.pfl_wire.specs.Faults.{frame_fault, fault_number}
use Rattle.pfl_wire.specs.Frames.{Frame, records_of}
use Rattle.pfl_wire.specs.Reading.{reading}
use Rattle.pfl_timeline.specs.reasons.declared.frame_step.FrameStep.{FrameStep}
use Rattle.pfl_timeline.specs.reasons.Frames.{Trace}
use Rattle.pfl_script.specs.Texts.{or_dash}
use Rattle.pfl_script.specs.Shows.{key_text, peer_text, frame_text}
use Rattle.pfl_script.specs.Logs.{logged_line}
use Rattle.pfl_script.specs.Reasons.{record_text, outcome_line}

-- ---- what is in a frame

-- the flow of a state that is sent: its protocol, the way of its first packet, and its keys
unfoldable pub sent_flow_text : KeyPair → Dir → List ℕ
sent_flow_text keys direction =
    proto_text keys.wire.proto ++ codes " " ++ dir_text direction ++ codes " " ++ key_text keys.wire ++ codes " " ++ key_text keys.stack

-- the source and the destination end
unfoldable pub sent_ends_text : Peer → Peer → List ℕ
sent_ends_text src dst = peer_text src ++ codes " " ++ peer_text dst

-- whether an acknowledgement is asked for
abbrev pub asks_text : Bool → List ℕ
asks_text true = codes "k"
asks_text false = codes "-"

-- a state that is sent, after its name: the seconds are those until it expires at the sender, and so is the rule the sender's
unfoldable pub sent_state_text : StateRecord → List ℕ
sent_state_text s =
    sent_flow_text s.keys s.direction ++ codes " " ++ sent_ends_text s.src s.dst ++ codes " " ++ class_text s.class ++ codes " "
    ++ decimal s.remaining ++ codes " " ++ or_dash decimal s.rule ++ codes " " ++ asks_text s.ack_wanted

-- what changes of a state, after its name
unfoldable pub sent_update_text : UpdateRecord → List ℕ
sent_update_text u = sent_ends_text u.src u.dst ++ codes " " ++ class_text u.class ++ codes " " ++ decimal u.remaining

-- what a record has after its kind and its name
abbrev pub content_text : Message → List ℕ
content_text (Insert s) = codes " " ++ sent_state_text s
content_text (Update s) = codes " " ++ sent_state_text s
content_text (UpdateShort u) = codes " " ++ sent_update_text u
content_text (Delete s) = codes " " ++ sent_state_text s
content_text other = []

-- a record, whole
abbrev pub sent_record_line : Message → List ℕ
sent_record_line m = codes "record " ++ record_text m ++ content_text m ++ codes "\n"

-- what bytes are read as: the records of a frame, one after another, or the number of the first fault
abbrev pub content_lines : Result Frame BadFrame → List ℕ
content_lines (Ok f) = flat_map sent_record_line (records_of f)
content_lines (Err why) = codes "broken " ++ decimal (fault_number (frame_fault why)) ++ codes "\n"

-- ---- what became of it

-- an event of the frame, with what came of it
abbrev pub frame_step_lines : List ℕ → FrameStep → List ℕ
frame_step_lines name s = logged_line name s.place s.event ++ outcome_line s.outcome

-- the branch and the ticket
abbrev pub traced_line : List ℕ → ℕ → List ℕ
traced_line name ticket = codes "frame " ++ name ++ codes " " ++ decimal ticket ++ codes "\n"

-- the event that sent the frame, the frame as it was sent, what is in it, and what befell it
unfoldable pub traced_text : List ℕ → ℕ → Trace → List ℕ
traced_text name ticket t =
    traced_line name ticket ++ frame_step_lines name t.first ++ frame_text ticket t.frame.to t.frame.bytes ++ content_lines (reading t.frame.bytes)
    ++ flat_map (frame_step_lines name) t.later ++ codes "end\n"
