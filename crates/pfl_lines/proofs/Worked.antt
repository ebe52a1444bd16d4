-- Worked cases, computed: searches, commands that ask for an earlier pair, why of an event, or for a frame, the lines of commands, and
-- what sessions say.
use Rattle.std.specs.Fmt.{decimal}
use Rattle.std.specs.Prelude.{◌≡◌, ℕ, zero, suc, List, [], ◌∷◌, ◌++◌, replicate, Ok, Err, Some, None, refl, codes}
use Rattle.pfl_base.specs.declared.addr.Addr.TheVariants.{V4}
use Rattle.pfl_base.specs.declared.direction.Dir.TheVariants.{Inbound}
use Rattle.pfl_base.specs.declared.node_id.NodeId.TheVariants.{A, B}
use Rattle.pfl_base.specs.declared.fields.PacketFields.{PacketFields}
use Rattle.pfl_base.specs.declared.fields.BadPacket.TheVariants.{Ports}
use Rattle.pfl_base.specs.declared.proto.Proto.TheVariants.{Udp}
use Rattle.pfl_language.specs.declared.choice.Choice.{Choice}
use Rattle.pfl_language.specs.declared.choice.Move.{Move}
use Rattle.pfl_language.specs.declared.choice.Move.TheVariants.{Given, AnyFrame}
use Rattle.pfl_language.specs.declared.event.Event.TheVariants as event
use Rattle.pfl_language.specs.declared.event.FrameEvent.TheVariants as frame
use Rattle.pfl_language.specs.declared.goal.Question.{Question}
use Rattle.pfl_language.specs.declared.goal.Question.TheVariants.{Apart, Differ, Unpassed, Dropped, Admitted, Split}
use Rattle.pfl_language.specs.declared.goal.Scope.{Scope}
use Rattle.pfl_language.specs.declared.goal.Scope.TheVariants.{Everywhere, Landed, Quiet, Settled}
use Rattle.pfl_language.specs.BranchWords.{main_name}
use Rattle.pfl_language.specs.declared.ask.Ask.TheVariants as ask
use Rattle.pfl_language.specs.declared.command.Command.TheVariants as command
use Rattle.pfl_language.specs.declared.node_event.NodeEvent.TheVariants as own
use Rattle.pfl_lines.specs.declared.fault.LineFault.TheVariants.{Unknown, Missing, Number, Extra, Packet}
use Rattle.pfl_lines.specs.declared.search.ScriptLine.{ScriptLine}
use Rattle.pfl_lines.specs.declared.search.ScriptLine.TheVariants as script
use Rattle.pfl_lines.specs.declared.session.SessionLine.TheVariants as session
use Rattle.pfl_lines.specs.Addresses.{end_of, v4_end, v4_of}
use Rattle.pfl_lines.specs.Commands.{event_at, flush_at, packet_at, bare_frame_event_at, command_of, command_at, ask_at, why_event_at}
use Rattle.pfl_lines.specs.Commands.{numbered_ask_at, step_at, whole_step, whole_why, whole_on, parsed}
use Rattle.pfl_lines.specs.Numbers.{number_of}
use Rattle.pfl_lines.specs.Packets.{fields_at, plain_at}
use Rattle.pfl_lines.specs.Search.{parsed_script, script_of, search_of, each_choice, choice_of, move_of, move_at, given_at, any_frame_at}
use Rattle.pfl_lines.specs.Search.{any_cut_at, goal_of, goal_at, question_at, passed_at, unpassed_at, dropped_at, admitted_at, split_at, judged_at}
use Rattle.pfl_lines.specs.Written.{command_text, event_text}
use Rattle.pfl_lines.specs.Session.{follow_after, session_of, parsed_session}

-- what events and commands need to compute on literals
unfoldable of_commands : ℕ
unfolding number_of v4_of v4_end end_of plain_at fields_at packet_at flush_at bare_frame_event_at event_at step_at why_event_at
    numbered_ask_at ask_at command_at whole_step whole_why whole_on command_of
of_commands = 0

-- what goals need
unfoldable of_goals : ℕ
unfolding of_commands judged_at passed_at unpassed_at dropped_at admitted_at split_at question_at goal_at goal_of
of_goals = 0

-- what lines of scripts need
unfoldable computing : ℕ
unfolding of_goals any_cut_at any_frame_at given_at move_at move_of choice_of each_choice search_of script_of parsed_script
computing = 0

-- ---- what is searched for

-- a search of runs of at most 8 events on `main`, of which 100 are tried
abbrev search_line : Question → Scope → List Choice → ScriptLine
search_line question scope choices = script.Search (record {
  branch = main_name;
  depth = 8;
  most = 100;
  goal = record { question = question; scope = scope };
  choices = record { items = choices };
})

abbrev times_in : ℕ → ℕ → Move → Choice
times_in phase n what = record { what = what; uses = n; phase = phase }

-- in the first phase
abbrev times : ℕ → Move → Choice
times n what = times_in 0 n what

no_choice : parsed_script (codes "search main 8 100 apart") ≡ Ok (search_line Apart Everywhere [])
unfolding computing
no_choice = refl

any_frames : parsed_script (codes "search main 8 100 settled apart; 4 any deliver;2 any cut 40") ≡
    Ok (search_line Apart Settled (times 4 (AnyFrame frame.Deliver) ∷ times 2 (AnyFrame (frame.Cut 40)) ∷ []))
unfolding computing
any_frames = refl

query : PacketFields
query = record {
  seq = 0;
  ack = 0;
  window = 0;
  len = 80;
  proto = Udp;
  src = record { addr = V4 0xc0000209; port = 53 };
  dst = record { addr = V4 0x0a000001; port = 1000 };
  flags = 0;
  scale = None;
}

answers : parsed_script (codes "search main 8 100 landed unpassed packet b in udp 192.0.2.9:53 10.0.0.1:1000 80; 2 flush a ; 1 lose 7") ≡
    Ok (search_line (Unpassed (event.At B (own.Packet Inbound query))) Landed (times 2 (Given (event.Flush A)) ∷ times 1 (Given (event.Of 7 frame.Lose)) ∷ []))
unfolding computing query
answers = refl

-- each `then` begins a phase, also one without choices
phases : parsed_script (codes "search main 8 100 quiet differ; 1 flush a; then ;2 any lose;then;then;3 flush b;4 any deliver") ≡
    Ok (search_line Differ Quiet (times 1 (Given (event.Flush A)) ∷ times_in 1 2 (AnyFrame frame.Lose) ∷ times_in 3 3 (Given (event.Flush B)) ∷
    times_in 3 4 (AnyFrame frame.Deliver) ∷ []))
unfolding computing
phases = refl

dropped : parsed_script (codes "search main 8 100 dropped packet b in udp 192.0.2.9:53 10.0.0.1:1000 80") ≡
    Ok (search_line (Dropped (event.At B (own.Packet Inbound query))) Everywhere [])
unfolding computing query
dropped = refl

admitted : parsed_script (codes "search main 8 100 settled admitted deliver 7") ≡ Ok (search_line (Admitted (event.Of 7 frame.Deliver)) Settled [])
unfolding computing
admitted = refl

split : parsed_script (codes "search main 8 100 split packet b in udp 192.0.2.9:53 10.0.0.1:1000 80") ≡
    Ok (search_line (Split B (own.Packet Inbound query)) Everywhere [])
unfolding computing query
split = refl

-- ---- faults, from the left

too_deep : parsed_script (codes "search main 65 100 nowhere; 0") ≡ Err Number
unfolding computing
too_deep = refl

no_goal : parsed_script (codes "search main 8 100 landed settled apart") ≡ Err Unknown
unfolding computing
no_goal = refl

goal_left_over : parsed_script (codes "search main 8 100 apart landed; 1 flush") ≡ Err Extra
unfolding computing
goal_left_over = refl

packet_before_extra : parsed_script (codes "search main 8 100 passed packet a in icmp 10.0.0.1:1 10.0.0.2:2 80 80") ≡ Err (Packet Ports)
unfolding computing
packet_before_extra = refl

-- the other node cannot have it instead
split_of_a_frame : parsed_script (codes "search main 8 100 split deliver 7 7") ≡ Err Unknown
unfolding computing
split_of_a_frame = refl

split_of_a_flush : parsed_script (codes "search main 8 100 split flush a") ≡ Err Unknown
unfolding computing
split_of_a_flush = refl

empty_part : parsed_script (codes "search main 8 100 apart;") ≡ Err Missing
unfolding computing
empty_part = refl

no_frame_by_ticket : parsed_script (codes "search main 8 100 apart; 1 any flush a") ≡ Err Unknown
unfolding computing
no_frame_by_ticket = refl

-- a text, that many times
abbrev repeated : ℕ → List ℕ → List ℕ
repeated zero text = []
repeated (suc n) text = text ++ repeated n text

sixteen : parsed_script (codes "search main 8 100 apart" ++ repeated 16 (codes ";1 flush a")) ≡
    Ok (search_line Apart Everywhere (replicate 16 (times 1 (Given (event.Flush A)))))
unfolding computing
sixteen = refl

-- whatever the 17th says
seventeen : parsed_script (codes "search main 8 100 apart" ++ repeated 16 (codes ";1 flush a") ++ codes ";nothing") ≡ Err Extra
unfolding computing
seventeen = refl

-- a phase more is not a choice more
sixteen_and_a_phase : parsed_script (codes "search main 8 100 apart" ++ repeated 16 (codes ";1 flush a") ++ codes ";then") ≡
    Ok (search_line Apart Everywhere (replicate 16 (times 1 (Given (event.Flush A)))))
unfolding computing
sixteen_and_a_phase = refl

last_phase : parsed_script (codes "search main 8 100 apart" ++ repeated 15 (codes ";then") ++ codes ";1 flush a") ≡
    Ok (search_line Apart Everywhere (times_in 15 1 (Given (event.Flush A)) ∷ []))
unfolding computing
last_phase = refl

seventeenth_phase : parsed_script (codes "search main 8 100 apart" ++ repeated 16 (codes ";then")) ≡ Err Extra
unfolding computing
seventeenth_phase = refl

-- `then` and another word are a choice without its number
then_left_over : parsed_script (codes "search main 8 100 apart;then 1 flush a") ≡ Err Number
unfolding computing
then_left_over = refl

-- ---- what is no search

other_word : parsed_script (codes "search; main 8 100 apart") ≡ Err Unknown
unfolding computing
other_word = refl

stepped : parsed_script (codes "step main flush a") ≡ Ok (script.Command (command.On main_name (ask.Step (event.Flush A))))
unfolding computing
stepped = refl

-- ---- an earlier pair

past_script : parsed_script (codes "past main 3") ≡ Ok (script.Command (command.On main_name (ask.Past 3)))
unfolding computing
past_script = refl

past_opening : parsed (codes "  past  main  000  ") ≡ Ok (command.On main_name (ask.Past 0))
unfolding computing parsed
past_opening = refl

past_greatest : parsed (codes "past main 4294967295") ≡ Ok (command.On main_name (ask.Past 4294967295))
unfolding computing parsed
past_greatest = refl

past_too_great : parsed (codes "past main 4294967296") ≡ Err Number
unfolding computing parsed
past_too_great = refl

past_no_number : parsed (codes "past 3 main") ≡ Err Number
unfolding computing parsed
past_no_number = refl

past_no_branch : parsed (codes "past") ≡ Err Missing
unfolding computing parsed
past_no_branch = refl

past_no_place : parsed (codes "past main") ≡ Err Missing
unfolding computing parsed
past_no_place = refl

past_left_over : parsed (codes "past main 3 2") ≡ Err Extra
unfolding computing parsed
past_left_over = refl

past_other_word : parsed (codes "pasts main 3") ≡ Err Unknown
unfolding computing parsed
past_other_word = refl

why_script : parsed_script (codes "why main 3") ≡ Ok (script.Command (command.On main_name (ask.Why 3)))
unfolding computing
why_script = refl

why_too_great : parsed (codes "why main 4294967296") ≡ Err Number
unfolding computing parsed
why_too_great = refl

why_no_place : parsed (codes "why main") ≡ Err Missing
unfolding computing parsed
why_no_place = refl

why_left_over : parsed (codes "why main 3 2") ≡ Err Extra
unfolding computing parsed
why_left_over = refl

why_no_number : parsed (codes "why main x") ≡ Err Number
unfolding computing parsed
why_no_number = refl

why_event : parsed_script (codes "why main flush a") ≡ Ok (script.Command (command.On main_name (ask.WhyStep (event.Flush A))))
unfolding computing
why_event = refl

why_event_packet : parsed (codes "why main packet b in udp 192.0.2.9:53 10.0.0.1:1000 80")
    ≡ Ok (command.On main_name (ask.WhyStep (event.At B (own.Packet Inbound query))))
unfolding computing parsed query
why_event_packet = refl

why_event_no_packet : parsed (codes "why main packet b in icmp 10.0.0.1:1 10.0.0.2:2 80") ≡ Err (Packet Ports)
unfolding computing parsed
why_event_no_packet = refl

-- a word left over comes before a packet that is none
why_event_left_over : parsed (codes "why main packet b in icmp 10.0.0.1:1 10.0.0.2:2 80 80") ≡ Err Extra
unfolding computing parsed
why_event_left_over = refl

why_event_no_node : parsed (codes "why main flush") ≡ Err Missing
unfolding computing parsed
why_event_no_node = refl

why_event_no_event : parsed (codes "why main flushes a") ≡ Err Number
unfolding computing parsed
why_event_no_event = refl

why_event_no_branch : parsed (codes "why flush a") ≡ Err Number
unfolding computing parsed
why_event_no_branch = refl

-- ---- a frame

frame_script : parsed_script (codes "frame main 7") ≡ Ok (script.Command (command.On main_name (ask.Frame 7)))
unfolding computing
frame_script = refl

frame_greatest : parsed (codes "frame main 4294967295") ≡ Ok (command.On main_name (ask.Frame 4294967295))
unfolding computing parsed
frame_greatest = refl

frame_too_great : parsed (codes "frame main 4294967296") ≡ Err Number
unfolding computing parsed
frame_too_great = refl

frame_no_ticket : parsed (codes "frame main") ≡ Err Missing
unfolding computing parsed
frame_no_ticket = refl

frame_left_over : parsed (codes "frame main 7 8") ≡ Err Extra
unfolding computing parsed
frame_left_over = refl

-- ---- the lines of commands

abbrev aside : List ℕ
aside = codes "aside-2"

back_line : (n : ℕ) → command_text (command.On main_name (ask.Back n)) ≡ codes "back main " ++ decimal n
back_line n = refl

fork_line : (k : ℕ) → command_text (command.Fork main_name k aside) ≡ codes "fork main " ++ decimal k ++ codes " " ++ codes "aside-2"
fork_line k = refl

drop_line : command_text (command.Drop aside) ≡ codes "drop aside-2"
drop_line = refl

why_line : (k : ℕ) → command_text (command.On main_name (ask.Why k)) ≡ codes "why main " ++ decimal k
why_line k = refl

why_event_line : command_text (command.On main_name (ask.WhyStep (event.Flush A))) ≡ codes "why main flush a"
unfolding event_text
why_event_line = refl

names_line : command_text command.Names ≡ codes "names"
names_line = refl

-- ---- what sessions say beside commands

-- what lines of sessions need
unfoldable of_sessions : ℕ
unfolding of_commands follow_after session_of parsed_session
of_sessions = 0

viewed : parsed_session (codes "view") ≡ Ok session.View
unfolding of_sessions
viewed = refl

set_up : parsed_session (codes "  setup ") ≡ Ok session.Setup
unfolding of_sessions
set_up = refl

setup_left_over : parsed_session (codes "setup x") ≡ Err Extra
unfolding of_sessions
setup_left_over = refl

followed : parsed_session (codes "follow") ≡ Ok (session.Follow None)
unfolding of_sessions
followed = refl

followed_from_the_first : parsed_session (codes "follow 0") ≡ Ok (session.Follow (Some 0))
unfolding of_sessions
followed_from_the_first = refl

followed_greatest : parsed_session (codes "follow 4294967295") ≡ Ok (session.Follow (Some 4294967295))
unfolding of_sessions
followed_greatest = refl

follow_too_great : parsed_session (codes "follow 4294967296") ≡ Err Number
unfolding of_sessions
follow_too_great = refl

follow_no_number : parsed_session (codes "follow x") ≡ Err Number
unfolding of_sessions
follow_no_number = refl

follow_left_over : parsed_session (codes "follow 1 2") ≡ Err Extra
unfolding of_sessions
follow_left_over = refl

-- the word of a fault that comes first is the first from the left
follow_no_number_left_over : parsed_session (codes "follow x 2") ≡ Err Number
unfolding of_sessions
follow_no_number_left_over = refl

asked : parsed_session (codes "step main flush a") ≡ Ok (session.Ask (command.On main_name (ask.Step (event.Flush A))))
unfolding of_sessions
asked = refl

-- a script knows neither word
setup_in_a_script : parsed_script (codes "setup") ≡ Err Unknown
unfolding computing
setup_in_a_script = refl

follow_in_a_script : parsed_script (codes "follow") ≡ Err Unknown
unfolding computing
follow_in_a_script = refl
