-- How events and commands are written: in the form of their lines, with numbers in plain decimal and one space between two words
-- (this project's profile).
use Rattle.std.specs.Prelude.{ℕ, List, [], ◌∷◌, ◌++◌, codes, Option, Some, None, ◌==◌, if◌then◌else◌}
use Rattle.std.specs.Fmt.{decimal}
use Rattle.std.specs.List.{flat_map, join_with_byte}
use Rattle.pfl_base.specs.declared.fields.PacketFields.{PacketFields}
use Rattle.pfl_base.specs.declared.proto.Proto.{Proto}
use Rattle.pfl_base.specs.Flags.{has}
use Rattle.pfl_base.specs.Packets.{is_tcp}
use Rattle.pfl_base.specs.Texts.{dir_text, end_text, name_text, node_text, proto_text}
use Rattle.pfl_base.specs.declared.node_id.NodeId.{NodeId}
use Rattle.pfl_language.specs.declared.event.Event.{Event}
use Rattle.pfl_language.specs.declared.node_event.NodeEvent.{NodeEvent}
use Rattle.pfl_language.specs.declared.node_event.NodeEvent.TheVariants as own
use Rattle.pfl_language.specs.declared.event.Event.TheVariants as events
use Rattle.pfl_language.specs.declared.event.FrameEvent.{FrameEvent}
use Rattle.pfl_language.specs.declared.event.FrameEvent.TheVariants as frame
use Rattle.pfl_language.specs.declared.command.Command.{Command}
use Rattle.pfl_language.specs.declared.command.Command.TheVariants as commands
use Rattle.pfl_lines.specs.AskWords.{AskRest, AnEvent, ANumber, Nothing, ask_rest, ask_word}
use Rattle.pfl_lines.specs.EventWords.{frame_event_word, node_event_word}
use Rattle.pfl_lines.specs.Parts.{flag_letters}

-- the letter of a flag that is set
abbrev pub letter_of : ℕ → ℕ × ℕ → List ℕ
letter_of flags (letter, bit) = if has flags bit then letter ∷ [] else []

-- flags of TCP: `-` for none, or the letters of those that are set
unfoldable pub flags_text : ℕ → List ℕ
flags_text flags = if flags == 0 then codes "-" else flat_map (letter_of flags) flag_letters

-- [SCALE]
abbrev pub scale_words : Option ℕ → List (List ℕ)
scale_words None = []
scale_words (Some scale) = decimal scale ∷ []

-- FLAGS SEQ ACK WINDOW LEN [SCALE]
abbrev pub tcp_words : PacketFields → List (List ℕ)
tcp_words p = flags_text p.flags ∷ decimal p.seq ∷ decimal p.ack ∷ decimal p.window ∷ decimal p.len ∷ scale_words p.scale

-- what the protocol has after the ends: LEN alone where it is none of TCP
abbrev pub segment_words : Proto → PacketFields → List (List ℕ)
segment_words proto p = if is_tcp proto then tcp_words p else decimal p.len ∷ []

-- PROTO SRC DST, and what the protocol has after them
abbrev pub fields_words : PacketFields → List (List ℕ)
fields_words p = proto_text p.proto ∷ end_text p.src ∷ end_text p.dst ∷ segment_words p.proto p

-- what an event of a node says after the node
abbrev pub node_event_rest : NodeEvent → List (List ℕ)
node_event_rest (own.Packet dir p) = dir_text dir ∷ fields_words p
node_event_rest (own.Tick ms) = decimal ms ∷ []
node_event_rest (own.Kill name) = name_text name ∷ []
node_event_rest _ = []

-- the word of an event of a node, the node, and what the event says after it
abbrev pub node_event_words : NodeId → NodeEvent → List (List ℕ)
node_event_words node e = node_event_word e ∷ node_text node ∷ node_event_rest e

-- what an event of a frame in flight says after its ticket
abbrev pub frame_event_rest : FrameEvent → List (List ℕ)
frame_event_rest (frame.Cut len) = decimal len ∷ []
frame_event_rest _ = []

-- the word of an event of a frame in flight, the ticket, and what the event says after it
abbrev pub frame_event_words : ℕ → FrameEvent → List (List ℕ)
frame_event_words ticket e = frame_event_word e ∷ decimal ticket ∷ frame_event_rest e

-- an event's word, and what belongs to it
abbrev pub event_words : Event → List (List ℕ)
event_words (events.At node e) = node_event_words node e
event_words (events.Flush node) = codes "flush" ∷ node_text node ∷ []
event_words (events.Of ticket e) = frame_event_words ticket e
event_words (events.Restart node) = codes "restart" ∷ node_text node ∷ []

-- an event
unfoldable pub event_text : Event → List ℕ
event_text e = join_with_byte 32 (event_words e)

-- the command that steps an event on a branch
abbrev pub step_text : List ℕ → Event → List ℕ
step_text name e = codes "step " ++ name ++ codes " " ++ event_text e

-- the command that asks what would come of an event on a branch, and why
abbrev pub why_text : List ℕ → Event → List ℕ
why_text name e = codes "why " ++ name ++ codes " " ++ event_text e

-- a command's word and a branch
abbrev pub on_branch : List ℕ → List ℕ → List ℕ
on_branch word name = word ++ codes " " ++ name

-- what is said after them
abbrev pub rest_text : AskRest → List ℕ
rest_text (AnEvent e) = codes " " ++ event_text e
rest_text (ANumber n) = codes " " ++ decimal n
rest_text Nothing = []

-- a command
abbrev pub command_text : Command → List ℕ
command_text (commands.On name q) = on_branch (ask_word q) name ++ rest_text (ask_rest q)
command_text (commands.Fork from place name) = on_branch (codes "fork") from ++ codes " " ++ decimal place ++ codes " " ++ name
command_text (commands.Drop name) = on_branch (codes "drop") name
command_text commands.Names = codes "names"
