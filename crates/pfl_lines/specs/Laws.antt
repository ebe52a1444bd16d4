-- Laws of lines, in their own words (this project's profile).
use Rattle.std.specs.Prelude.{⊤, ◌≡◌, ◌<◌, ◌≤◌, ◌^◌, ◌&&◌, nat_le, ℕ, Bool, List, length, IsTrue, Ok, Err}
use Rattle.std.specs.List.{list_all}
use Rattle.pfl_base.specs.declared.addr.Addr.{Addr}
use Rattle.pfl_base.specs.declared.addr.Addr.TheVariants.{V4, V6}
use Rattle.pfl_base.specs.declared.addr.End.{End}
use Rattle.pfl_base.specs.declared.fields.PacketFields.{PacketFields}
use Rattle.pfl_base.specs.declared.state_name.StateName.{StateName}
use Rattle.pfl_base.specs.Ends.{proto_number}
use Rattle.pfl_base.specs.Numbers.{greatest}
use Rattle.pfl_base.specs.Packets.{IsPacket}
use Rattle.pfl_language.specs.declared.event.Event.{Event}
use Rattle.pfl_language.specs.declared.node_event.NodeEvent.{NodeEvent}
use Rattle.pfl_language.specs.declared.node_event.NodeEvent.TheVariants as own
use Rattle.pfl_language.specs.declared.event.Event.TheVariants as events
use Rattle.pfl_language.specs.declared.event.FrameEvent.{FrameEvent}
use Rattle.pfl_language.specs.declared.event.FrameEvent.TheVariants as frame
use Rattle.pfl_language.specs.declared.ask.Ask.TheVariants as ask
use Rattle.pfl_language.specs.declared.command.Command.{Command}
use Rattle.pfl_language.specs.declared.command.Command.TheVariants as commands
use Rattle.pfl_language.specs.BranchWords.{is_branch_name}
use Rattle.pfl_lines.specs.declared.fault.LineFault.TheVariants.{Number}
use Rattle.pfl_lines.specs.AskWords.{AskRest, AnEvent, ANumber, Nothing, ask_rest}
use Rattle.pfl_lines.specs.Commands.{parsed}
use Rattle.pfl_lines.specs.EventWords.{is_event_word}
use Rattle.pfl_lines.specs.Numbers.{number_of}
use Rattle.pfl_lines.specs.Written.{command_text, step_text, why_text}

-- ---- which events there are: each number is one of its type's, and a packet is one

-- an address of 32 or 128 bits
abbrev pub IsAddr : Addr → Type 0
IsAddr (V4 n) = n < 2 ^ 32
IsAddr (V6 n) = n < 2 ^ 128

-- an address, and a port of 16 bits
pub record IsEnd (e : End) : Type 0 where
  pub addr : IsAddr e.addr
  pub port : e.port < 2 ^ 16

-- a packet
pub record IsTyped (p : PacketFields) : Type 0 where
  pub packet : IsPacket p
  pub proto : proto_number p.proto < 2 ^ 8
  pub src : IsEnd p.src
  pub dst : IsEnd p.dst
  pub flags : p.flags < 64
  pub seq : p.seq ≤ greatest
  pub ack : p.ack ≤ greatest
  pub window : p.window < 2 ^ 16

-- a state's name
pub record IsStateName (name : StateName) : Type 0 where
  pub creator : name.creator ≤ greatest
  pub id : name.id < 2 ^ 64

-- an event of a node
abbrev pub IsTypedNodeEvent : NodeEvent → Type 0
IsTypedNodeEvent (own.Packet dir p) = IsTyped p
IsTypedNodeEvent (own.Tick ms) = ms < 2 ^ 64
IsTypedNodeEvent (own.Kill name) = IsStateName name
IsTypedNodeEvent _ = ⊤

-- an event of a frame
abbrev pub IsTypedFrameEvent : FrameEvent → Type 0
IsTypedFrameEvent (frame.Cut len) = len ≤ greatest
IsTypedFrameEvent _ = ⊤

-- an event
abbrev pub IsTypedEvent : Event → Type 0
IsTypedEvent (events.At node e) = IsTypedNodeEvent e
IsTypedEvent (events.Of ticket e) = (ticket ≤ greatest) × IsTypedFrameEvent e
IsTypedEvent _ = ⊤

-- ---- which commands a line may say: with any words for branches, names of branches among them

-- a byte that prints and is no space
abbrev pub is_mark : ℕ → Bool
is_mark b = nat_le 33 b && nat_le b 126

-- a word of at most `most` bytes
abbrev pub is_plain : ℕ → List ℕ → Bool
is_plain most word = (nat_le 1 (length word) && nat_le (length word) most) && list_all is_mark word

-- a word that a line may have for a branch
abbrev pub IsBranchWord : List ℕ → Type 0
IsBranchWord word = IsTrue (is_plain 32 word)

-- what is said of a branch after its name
abbrev pub IsTypedRest : AskRest → Type 0
IsTypedRest (AnEvent e) = IsTypedEvent e
IsTypedRest (ANumber n) = n ≤ greatest
IsTypedRest Nothing = ⊤

-- a command
abbrev pub IsTypedCommand : Command → Type 0
IsTypedCommand (commands.On name q) = IsBranchWord name × IsTypedRest (ask_rest q)
IsTypedCommand (commands.Fork from place name) = IsBranchWord from × (place ≤ greatest) × IsBranchWord name
IsTypedCommand (commands.Drop name) = IsBranchWord name
IsTypedCommand commands.Names = ⊤

-- ---- laws

-- the line of a command is read as that command
abbrev pub CommandsReadBack : Type 0
CommandsReadBack = (c : Command) → IsTypedCommand c → parsed (command_text c) ≡ Ok c

-- a branch's name is such a word
abbrev pub NamesAreWords : Type 0
NamesAreWords = (name : List ℕ) → IsTrue (is_branch_name name) → IsBranchWord name

-- the line that steps an event is read as that command
abbrev pub StepsReadBack : Type 0
StepsReadBack = (name : List ℕ) (e : Event) → IsTrue (is_branch_name name) → IsTypedEvent e → parsed (step_text name e) ≡ Ok (commands.On name (ask.Step e))

-- the line that asks why of an event is read as that command
abbrev pub WhysReadBack : Type 0
WhysReadBack = (name : List ℕ) (e : Event) → IsTrue (is_branch_name name) → IsTypedEvent e → parsed (why_text name e) ≡ Ok (commands.On name (ask.WhyStep e))

-- no event's word is a number: a line that asks why of a place asks of no event
abbrev pub EventWordsAreNoNumbers : Type 0
EventWordsAreNoNumbers = (word : List ℕ) → IsTrue (is_event_word word) → number_of greatest word ≡ Err Number
