-- How commands and their events are written (this project's profile).
use Rattle.std.specs.Prelude.{ℕ, Bool, false, ◌&&◌, ◌||◌, ◌==◌, nat_le, nat_lt, List, [], ◌∷◌, length, codes, bytes_eq, if◌then◌else◌, Option, Some}
use Rattle.std.specs.Prelude.{None, Result, Ok, Err}
use Rattle.std.specs.List.{list_all}
use Rattle.std.specs.Option.{ok_or, option_map_or}
use Rattle.pfl_base.specs.declared.direction.Dir.{Dir}
use Rattle.pfl_base.specs.declared.node_id.NodeId.{NodeId}
use Rattle.pfl_base.specs.declared.fields.PacketFields.{PacketFields}
use Rattle.pfl_base.specs.declared.fields.BadPacket.{BadPacket}
use Rattle.pfl_base.specs.Numbers.{greatest}
use Rattle.pfl_base.specs.Packets.{bad_packet}
use Rattle.pfl_language.specs.declared.event.Event.{Event}
use Rattle.pfl_language.specs.declared.node_event.NodeEvent.{NodeEvent}
use Rattle.pfl_language.specs.declared.node_event.NodeEvent.TheVariants as own
use Rattle.pfl_language.specs.declared.event.Event.TheVariants as events
use Rattle.pfl_language.specs.declared.event.FrameEvent.{FrameEvent}
use Rattle.pfl_language.specs.declared.event.FrameEvent.TheVariants as frame
use Rattle.pfl_language.specs.declared.ask.Ask.{Ask}
use Rattle.pfl_language.specs.declared.ask.Ask.TheVariants as ask
use Rattle.pfl_language.specs.declared.command.Command.{Command}
use Rattle.pfl_language.specs.declared.command.Command.TheVariants as commands
use Rattle.pfl_lines.specs.declared.fault.LineFault.{LineFault}
use Rattle.pfl_lines.specs.declared.fault.LineFault.TheVariants as faults
use Rattle.pfl_lines.specs.declared.draft.EventDraft.{EventDraft}
use Rattle.pfl_lines.specs.declared.draft.EventDraft.TheVariants as event_draft
use Rattle.pfl_lines.specs.declared.draft.AskDraft.{AskDraft}
use Rattle.pfl_lines.specs.declared.draft.AskDraft.TheVariants as ask_draft
use Rattle.pfl_lines.specs.declared.draft.CommandDraft.{CommandDraft}
use Rattle.pfl_lines.specs.declared.draft.CommandDraft.TheVariants as draft
use Rattle.pfl_lines.specs.AskWords.{bare_ask, is_ask_word, numbered_ask}
use Rattle.pfl_lines.specs.EventWords.{bare_frame_event, bare_node_event, is_event_word}
use Rattle.pfl_lines.specs.Words.{words}
use Rattle.pfl_lines.specs.Readings.{◌>>=◌, Reading, word_at}
use Rattle.pfl_lines.specs.Parts.{number_at, node_at, dir_at, name_at, branch_at}
use Rattle.pfl_lines.specs.Packets.{fields_at}

-- ---- events

-- NODE in|out, and a packet's fields
unfoldable pub packet_at : List (List ℕ) → Reading EventDraft
packet_at ws = do
  node ← node_at ws
  dir ← dir_at node.1
  fields ← fields_at dir.1
  Ok (event_draft.Packet node.0 dir.0 fields.0, fields.1)

-- NODE MS
unfoldable pub tick_at : List (List ℕ) → Reading EventDraft
tick_at ws = do
  node ← node_at ws
  ms ← number_at 18446744073709551615 node.1
  Ok (event_draft.Whole (events.At node.0 (own.Tick ms.0)), ms.1)

-- NODE NAME
unfoldable pub kill_at : List (List ℕ) → Reading EventDraft
kill_at ws = do
  node ← node_at ws
  name ← name_at node.1
  Ok (event_draft.Whole (events.At node.0 (own.Kill name.0)), name.1)

-- NODE
unfoldable pub bare_node_event_at : NodeEvent → List (List ℕ) → Reading EventDraft
bare_node_event_at e ws = do
  node ← node_at ws
  Ok (event_draft.Whole (events.At node.0 e), node.1)

-- NODE
unfoldable pub flush_at : List (List ℕ) → Reading EventDraft
flush_at ws = do
  node ← node_at ws
  Ok (event_draft.Whole (events.Flush node.0), node.1)

-- NODE
unfoldable pub restart_at : List (List ℕ) → Reading EventDraft
restart_at ws = do
  node ← node_at ws
  Ok (event_draft.Whole (events.Restart node.0), node.1)

-- a ticket
abbrev pub ticket_at : List (List ℕ) → Reading ℕ
ticket_at ws = number_at greatest ws

-- TICKET LEN
unfoldable pub cut_event_at : List (List ℕ) → Reading EventDraft
cut_event_at ws = do
  ticket ← ticket_at ws
  len ← number_at greatest ticket.1
  Ok (event_draft.Whole (events.Of ticket.0 (frame.Cut len.0)), len.1)

-- TICKET
unfoldable pub bare_frame_event_at : FrameEvent → List (List ℕ) → Reading EventDraft
bare_frame_event_at e ws = do
  ticket ← ticket_at ws
  Ok (event_draft.Whole (events.Of ticket.0 e), ticket.1)

-- what belongs to the word of an event of a node
abbrev pub node_event_by : List ℕ → List (List ℕ) → Reading EventDraft
node_event_by word ws =
    if bytes_eq word (codes "packet") then packet_at ws else
    if bytes_eq word (codes "tick") then tick_at ws else
    if bytes_eq word (codes "kill") then kill_at ws else
    option_map_or (λ e. bare_node_event_at e ws) (bare_node_event word) (Err faults.Unknown)

-- what belongs to the word of an event of a frame in flight, or of a node
abbrev pub frame_event_by : List ℕ → List (List ℕ) → Reading EventDraft
frame_event_by word ws =
    if bytes_eq word (codes "cut") then cut_event_at ws else
    option_map_or (λ e. bare_frame_event_at e ws) (bare_frame_event word) (node_event_by word ws)

-- what belongs to an event's word
abbrev pub event_by : List ℕ → List (List ℕ) → Reading EventDraft
event_by word ws =
    if bytes_eq word (codes "flush") then flush_at ws else
    if bytes_eq word (codes "restart") then restart_at ws else frame_event_by word ws

-- an event's word and what belongs to it
unfoldable pub event_at : List (List ℕ) → Reading EventDraft
event_at ws = do
  word ← word_at ws
  event_by word.0 word.1

-- ---- commands

-- EVENT
unfoldable pub step_at : List (List ℕ) → Reading AskDraft
step_at ws = do
  event ← event_at ws
  Ok (ask_draft.Step event.0, event.1)

-- the words begin with an event's
abbrev pub begins_event : List (List ℕ) → Bool
begins_event [] = false
begins_event (word ∷ ws) = is_event_word word

-- EVENT, asked about
unfoldable pub why_event_at : List (List ℕ) → Reading AskDraft
why_event_at ws = do
  event ← event_at ws
  Ok (ask_draft.WhyStep event.0, event.1)

-- N
unfoldable pub numbered_ask_at : List ℕ → List (List ℕ) → Reading AskDraft
numbered_ask_at word ws = do
  n ← number_at greatest ws
  q ← ok_or (numbered_ask word n.0) faults.Unknown
  Ok (ask_draft.Whole q, n.1)

-- what belongs to the word of a question after the branch: of `why`, EVENT where an event's word comes, and N where none does
abbrev pub ask_by : List ℕ → List (List ℕ) → Reading AskDraft
ask_by word ws =
    if bytes_eq word (codes "step") then step_at ws else
    if bytes_eq word (codes "why") && begins_event ws then why_event_at ws else
    option_map_or (λ q. Ok (ask_draft.Whole q, ws)) (bare_ask word) (numbered_ask_at word ws)

-- BR, and what is asked of it
unfoldable pub ask_at : List ℕ → List (List ℕ) → Reading CommandDraft
ask_at word ws = do
  branch ← branch_at ws
  q ← ask_by word branch.1
  Ok (draft.On branch.0 q.0, q.1)

-- BR K NEW
unfoldable pub fork_at : List (List ℕ) → Reading CommandDraft
fork_at ws = do
  from ← branch_at ws
  place ← number_at greatest from.1
  name ← branch_at place.1
  Ok (draft.Whole (commands.Fork from.0 place.0 name.0), name.1)

-- BR
unfoldable pub drop_at : List (List ℕ) → Reading CommandDraft
drop_at ws = do
  branch ← branch_at ws
  Ok (draft.Whole (commands.Drop branch.0), branch.1)

-- nothing
abbrev pub names_at : List (List ℕ) → Reading CommandDraft
names_at ws = Ok (draft.Whole commands.Names, ws)

-- what belongs to a command's word
abbrev pub command_by : List ℕ → List (List ℕ) → Reading CommandDraft
command_by word ws =
    if is_ask_word word then ask_at word ws else
    if bytes_eq word (codes "fork") then fork_at ws else
    if bytes_eq word (codes "drop") then drop_at ws else
    if bytes_eq word (codes "names") then names_at ws else Err faults.Unknown

-- a command's word and what belongs to it
unfoldable pub command_at : List (List ℕ) → Reading CommandDraft
command_at ws = do
  word ← word_at ws
  command_by word.0 word.1

-- ---- lines

-- no word is left over
abbrev pub finished : {X : Type 0} → X × List (List ℕ) → Result X LineFault
finished (x, []) = Ok x
finished (x, word ∷ ws) = Err faults.Extra

-- a packet is one, unless its fields have a fault
abbrev pub packet_unless : NodeId → Dir → PacketFields → Option BadPacket → Result Event LineFault
packet_unless node dir fields None = Ok (events.At node (own.Packet dir fields))
packet_unless node dir fields (Some why) = Err (faults.Packet why)

-- the event, once its packet is judged
abbrev pub whole_event : EventDraft → Result Event LineFault
whole_event (event_draft.Packet node dir fields) = packet_unless node dir fields (bad_packet fields)
whole_event (event_draft.Whole event) = Ok event

-- an event that happens
unfoldable pub whole_step : EventDraft → Result Ask LineFault
whole_step event = do
  whole ← whole_event event
  Ok (ask.Step whole)

-- an event that is asked about
unfoldable pub whole_why : EventDraft → Result Ask LineFault
whole_why event = do
  whole ← whole_event event
  Ok (ask.WhyStep whole)

-- what is asked, once its packet is judged
abbrev pub whole_ask : AskDraft → Result Ask LineFault
whole_ask (ask_draft.Step event) = whole_step event
whole_ask (ask_draft.WhyStep event) = whole_why event
whole_ask (ask_draft.Whole q) = Ok q

-- what is asked of a branch
unfoldable pub whole_on : List ℕ → AskDraft → Result Command LineFault
whole_on branch asked = do
  q ← whole_ask asked
  Ok (commands.On branch q)

-- the command, once its packet is judged
abbrev pub whole_command : CommandDraft → Result Command LineFault
whole_command (draft.On branch asked) = whole_on branch asked
whole_command (draft.Whole command) = Ok command

-- what words say: words left over come before a packet that is none
unfoldable pub command_of : List (List ℕ) → Result Command LineFault
command_of ws = do
  read ← command_at ws
  command ← finished read
  whole_command command

-- a tab, or a printable byte
abbrev pub is_text : ℕ → Bool
is_text b = (b == 9) || (nat_le 32 b && nat_le b 126)

-- a line of at most 512 bytes of text
abbrev pub checked : List ℕ → Result (List ℕ) LineFault
checked line =
    if nat_lt 512 (length line) then Err faults.Long else
    if list_all is_text line then Ok line else Err faults.NotAscii

-- what a line says
unfoldable pub parsed : List ℕ → Result Command LineFault
parsed line = do
  text ← checked line
  command_of (words text)
