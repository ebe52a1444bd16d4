-- Worked cases of timelines, computed.
use Rattle.std.specs.Prelude.{◌≡◌, ℕ, List, [], ◌∷◌, map, Option, Some, None, Result, Ok, Err, refl, codes}
use Rattle.pfl_edits.specs.Maps as maps
use Rattle.pfl_base.specs.declared.direction.Dir.TheVariants.{Outbound}
use Rattle.pfl_base.specs.declared.node_id.NodeId.TheVariants.{A}
use Rattle.pfl_base.specs.declared.packet.Packet.{Packet}
use Rattle.pfl_base.specs.declared.refusal.Refusal.{Refusal}
use Rattle.pfl_base.specs.declared.refusal.Refusal.TheVariants as refusal
use Rattle.pfl_language.specs.declared.event.Event.{Event}
use Rattle.pfl_language.specs.declared.node_event.NodeEvent.TheVariants as own
use Rattle.pfl_language.specs.declared.node_event.NodeOutcome.TheVariants as given
use Rattle.pfl_language.specs.declared.fate.Fate.TheVariants as fate
use Rattle.pfl_language.specs.declared.event.Event.TheVariants as event
use Rattle.pfl_language.specs.declared.event.FrameEvent.TheVariants as frame
use Rattle.pfl_language.specs.declared.outcome.Outcome.{Outcome}
use Rattle.pfl_language.specs.declared.outcome.Outcome.TheVariants as outcome
use Rattle.pfl_language.specs.declared.ask.Ask.TheVariants as ask
use Rattle.pfl_language.specs.declared.command.Command.{Command}
use Rattle.pfl_language.specs.declared.command.Command.TheVariants as command
use Rattle.pfl_language.specs.declared.refused.Refused.TheVariants as refused
use Rattle.pfl_language.specs.BranchWords.{main_name}
use Rattle.pfl_search.proofs.ForCallers.world.{limits, opening, u1, u2, u3, name, computing as of_worlds}
use Rattle.pfl_search.specs.world.link.Links.{InFlight}
use Rattle.pfl_reasons.specs.Explaining.{explained}
use Rattle.pfl_reasons.specs.Frames as frames
use Rattle.pfl_reasons.specs.declared.frame_step.FrameStep.{FrameStep}
use Rattle.pfl_timeline.specs.Timelines.{Timeline, new_timeline}
use Rattle.pfl_timeline.specs.Timelines as timelines
use Rattle.pfl_timeline.specs.Answers as answers
use Rattle.pfl_timeline.specs.Commands as commands
use Rattle.pfl_timeline.specs.Commands.{command_step}
use Rattle.pfl_timeline.specs.Excisions as excisions
use Rattle.pfl_timeline.specs.Replies as reply
use Rattle.pfl_timeline.specs.Replies.{Reply}
use Rattle.pfl_timeline.specs.Summaries.{summary}

-- ---- commands; steps, moves, excisions and restorations are on `main`

abbrev step : Event → Command
step e = command.On main_name (ask.Step e)

abbrev back : ℕ → Command
back n = command.On main_name (ask.Back n)

abbrev forward : ℕ → Command
forward n = command.On main_name (ask.Forward n)

abbrev fork : List ℕ → ℕ → List ℕ → Command
fork of k new = command.Fork of k new

abbrev drop : List ℕ → Command
drop of = command.Drop of

abbrev show : List ℕ → Command
show of = command.On of ask.Show

abbrev past : List ℕ → ℕ → Command
past of k = command.On of (ask.Past k)

abbrev why : List ℕ → ℕ → Command
why of k = command.On of (ask.Why k)

abbrev why_step : Event → Command
why_step e = command.On main_name (ask.WhyStep e)

abbrev frame_of : List ℕ → ℕ → Command
frame_of of ticket = command.On of (ask.Frame ticket)

abbrev names : Command
names = command.Names

abbrev excise : ℕ → Command
excise k = command.On main_name (ask.Excise k)

abbrev restore : Command
restore = command.On main_name ask.Restore

abbrev log : List ℕ → Command
log of = command.On of ask.Log

abbrev packet : Packet → Command
packet p = step (event.At A (own.Packet Outbound p))

abbrev tick : ℕ → Command
tick ms = step (event.At A (own.Tick ms))

-- the replies to the commands, each on the timeline that those before it left
unfoldable replies : Timeline → List Command → List Reply
replies t [] = []
replies t (c ∷ cs) = let r = command_step t c in r.reply ∷ replies r.timeline cs

-- the timeline that the commands leave
unfoldable final : Timeline → List Command → Timeline
final t [] = t
final t (c ∷ cs) = final (command_step t c).timeline cs

unfoldable computing : ℕ
unfolding of_worlds replies final commands.command_step answers.answer timelines.world_of frames.done frames.traced excisions.sieve summary
computing = 0

abbrev t : Timeline
t = new_timeline (opening limits)

abbrev passed : ℕ → ℕ → ℕ → Reply
passed creator id dropped = reply.Stepped (outcome.At (given.Handled (fate.Pass (Some (name creator id))))) dropped

there_and_back : replies (t) (packet u1 ∷ back 1 ∷ show main_name ∷ []) ≡ passed 1 1 0 ∷ reply.At 0 ∷ reply.Shown main_name 1 0 (opening limits) ∷ []
unfolding computing
there_and_back = refl

cut_and_fork : replies (t) (packet u1 ∷ packet u2 ∷ packet u3 ∷ back 3 ∷ tick 5 ∷ forward 1 ∷ back 2 ∷ fork main_name 0 (codes "t")
    ∷ show (codes "t") ∷ names ∷ drop (codes "t") ∷ drop main_name ∷ []) ≡ passed 1 1 0 ∷ passed 1 2 0 ∷ passed 1 3 0 ∷ reply.At 0
    ∷ reply.Stepped (outcome.At (given.Clock 5)) 3 ∷ reply.Refused refused.NothingForward ∷ reply.Refused refused.TooFarBack ∷ reply.Forked
    ∷ reply.Shown (codes "t") 0 0 (opening limits) ∷ reply.Names (main_name ∷ codes "t" ∷ []) ∷ reply.Removed ∷ reply.Refused refused.LastBranch ∷ []
unfolding computing
cut_and_fork = refl

fork_refused : replies (t) (fork main_name 1 main_name ∷ fork main_name 1 (codes "T") ∷ fork main_name 1 (codes "t")
    ∷ fork (codes "x") 0 (codes "t") ∷ []) ≡ reply.Refused refused.NameTaken ∷ reply.Refused refused.BadName
    ∷ reply.Refused refused.NothingForward ∷ reply.Refused refused.NoBranch ∷ []
unfolding computing
fork_refused = refl

branches_full : replies (t) (fork main_name 0 (codes "b1") ∷ fork main_name 0 (codes "b2") ∷ fork main_name 0 (codes "b3")
    ∷ fork main_name 0 (codes "b4") ∷ fork main_name 0 (codes "b5") ∷ fork main_name 0 (codes "b6") ∷ fork main_name 0 (codes "b7")
    ∷ fork main_name 0 (codes "b8") ∷ fork main_name 0 (codes "b9") ∷ fork main_name 0 (codes "b10") ∷ fork main_name 0 (codes "b11")
    ∷ fork main_name 0 (codes "b12") ∷ fork main_name 0 (codes "b13") ∷ fork main_name 0 (codes "b14") ∷ fork main_name 0 (codes "b15")
    ∷ fork main_name 0 (codes "b16") ∷ []) ≡ reply.Forked ∷ reply.Forked ∷ reply.Forked ∷ reply.Forked ∷ reply.Forked ∷ reply.Forked
    ∷ reply.Forked ∷ reply.Forked ∷ reply.Forked ∷ reply.Forked ∷ reply.Forked ∷ reply.Forked ∷ reply.Forked ∷ reply.Forked ∷ reply.Forked
    ∷ reply.Refused refused.BranchesFull ∷ []
unfolding computing
branches_full = refl

counted_once : summary (final t (packet u1 ∷ [])) 1 ≡ 1 ∷ 1 ∷ 1 ∷ 1 ∷ 1 ∷ 0 ∷ 0 ∷ 1 ∷ []
unfolding computing
counted_once = refl

counted : summary (final t (packet u1 ∷ back 1 ∷ packet u1 ∷ [])) 3 ≡ 3 ∷ 1 ∷ 1 ∷ 1 ∷ 1 ∷ 0 ∷ 0 ∷ 1 ∷ []
unfolding computing
counted = refl

-- a refused event cuts nothing
refused_step : replies (t) (packet u1 ∷ back 1 ∷ tick 1000000000001 ∷ forward 1 ∷ []) ≡ passed 1 1 0 ∷ reply.At 0
    ∷ reply.Refused (refused.Event refusal.ClockFull) ∷ reply.At 1 ∷ []
unfolding computing
refused_step = refl

-- ---- an event taken out

-- a packet, its frame sent and delivered, and another packet
abbrev four : List Command
four = packet u1 ∷ step (event.Flush A) ∷ step (event.Of 1 frame.Deliver) ∷ packet u2 ∷ []

abbrev after_four : Timeline
after_four = final t four

-- the replies after the four events, and how many events stand then, of how many
abbrev asked_then : List Command → List Reply
asked_then cs = replies after_four cs

-- where the packet goes, its frame goes too, and the other packet has the number that was the first one's; then all is back
taken_out : asked_then (excise 1 ∷ back 1 ∷ step (event.At A (own.Kill (name 1 1))) ∷ []) ≡ reply.Excised (2 ∷ 3 ∷ []) ∷ reply.At 0
    ∷ reply.Refused (refused.Event refusal.NoSuchState) ∷ []
unfolding computing
taken_out = refl

brought_back : asked_then (excise 1 ∷ restore ∷ restore ∷ []) ≡ reply.Excised (2 ∷ 3 ∷ []) ∷ reply.Restored 4 ∷ reply.Refused refused.NothingExcised ∷ []
unfolding computing
brought_back = refl

no_event : asked_then (excise 0 ∷ excise 5 ∷ []) ≡ reply.Refused refused.NoEvent ∷ reply.Refused refused.NoEvent ∷ []
unfolding computing
no_event = refl

-- of the events that stand those stand that are left
undone_before : asked_then (back 2 ∷ excise 1 ∷ forward 2 ∷ forward 1 ∷ restore ∷ []) ≡ reply.At 2 ∷ reply.Excised (2 ∷ 3 ∷ [])
    ∷ reply.Refused refused.NothingForward ∷ reply.At 1 ∷ reply.Restored 2 ∷ []
unfolding computing
undone_before = refl

-- a refused step leaves what can be brought back, and an accepted one does not
last_event : asked_then (excise 4 ∷ step (event.Of 9 frame.Lose) ∷ restore ∷ excise 4 ∷ tick 1 ∷ restore ∷ [])
    ≡ reply.Excised [] ∷ reply.Refused (refused.Event refusal.NoSuchFrame) ∷ reply.Restored 4 ∷ reply.Excised []
    ∷ reply.Stepped (outcome.At (given.Clock 1)) 0 ∷ reply.Refused refused.NothingExcised ∷ []
unfolding computing
last_event = refl

-- a log lists all events, those after the cursor too; a fork's those that it took
told : asked_then (back 3 ∷ log main_name ∷ fork main_name 2 (codes "t") ∷ log (codes "t") ∷ excise 1 ∷ log main_name ∷ log (codes "x") ∷ [])
    ≡ reply.At 1 ∷ reply.Logged main_name (event.At A (own.Packet Outbound u1) ∷ event.Flush A ∷ event.Of 1 frame.Deliver
    ∷ event.At A (own.Packet Outbound u2) ∷ []) 1 ∷ reply.Forked
    ∷ reply.Logged (codes "t") (event.At A (own.Packet Outbound u1) ∷ event.Flush A ∷ []) 2 ∷ reply.Excised (2 ∷ 3 ∷ [])
    ∷ reply.Logged main_name (event.At A (own.Packet Outbound u2) ∷ []) 0 ∷ reply.Refused refused.NoBranch ∷ []
unfolding computing
told = refl

-- what is seen of a place is what the branch shows when it stands there, be it before the cursor, at it, or after it; and nothing moves
seen_there : asked_then (back 2 ∷ past main_name 0 ∷ past main_name 5 ∷ past (codes "x") 9 ∷ forward 2 ∷ [])
    ≡ reply.At 2 ∷ reply.Shown main_name 4 0 (opening limits) ∷ reply.Refused refused.NothingForward ∷ reply.Refused refused.NoBranch ∷ reply.At 4 ∷ []
unfolding computing
seen_there = refl

-- an event is explained where it stands, before the cursor and after it; places count from 1, and nothing moves
abbrev first_explained : Reply
first_explained =
    let e = event.At A (own.Packet Outbound u1) in
    reply.Explained main_name 1 e (Ok (outcome.At (given.Handled (fate.Pass (Some (name 1 1)))))) (explained (opening limits) e)

why_there : asked_then (why main_name 1 ∷ back 4 ∷ why main_name 1 ∷ why main_name 0 ∷ why main_name 5 ∷ why (codes "x") 0 ∷ forward 4 ∷ [])
    ≡ first_explained ∷ reply.At 0 ∷ first_explained ∷ reply.Refused refused.NoEvent ∷ reply.Refused refused.NoEvent
    ∷ reply.Refused refused.NoBranch ∷ reply.At 4 ∷ []
unfolding computing
why_there = refl

-- an event that has not happened is explained where the branch stands, one that would be refused too, and nothing moves
abbrev no_flush : Reply
no_flush = reply.Explained main_name 1 (event.Flush A) (Err refusal.NothingPending) (explained (opening limits) (event.Flush A))

foretold : asked_then (back 4 ∷ why_step (event.Flush A) ∷ why_step (event.At A (own.Packet Outbound u1)) ∷ forward 4
    ∷ command.On (codes "x") (ask.WhyStep (event.Flush A)) ∷ [])
    ≡ reply.At 0 ∷ no_flush ∷ first_explained ∷ reply.At 4 ∷ reply.Refused refused.NoBranch ∷ []
unfolding computing
foretold = refl

-- at which place what would come
abbrev came_shown : Reply → Option (ℕ × Result Outcome Refusal)
came_shown (reply.Explained of k e came why) = Some (k, came)
came_shown other = None

-- a flush, where the packet has happened, and where its frame was sent already
flush_foretold : map came_shown (asked_then (back 3 ∷ why_step (event.Flush A) ∷ forward 1 ∷ why_step (event.Flush A) ∷ []))
    ≡ None ∷ Some (2, Ok (outcome.Sent 1 148)) ∷ None ∷ Some (3, Err refusal.NothingPending) ∷ []
unfolding computing
flush_foretold = refl

-- ---- frames

-- the event that sent the frame, and those that befell it
abbrev steps_shown : Reply → List FrameStep
steps_shown (reply.Traced of ticket trace) = trace.first ∷ trace.later
steps_shown other = []

-- the frame of the ticket 1
abbrev first_frame : Reply → Option InFlight
first_frame (reply.Traced of ticket trace) = Some trace.frame
first_frame (reply.Shown of events place w) = maps.get w.link.frames 1
first_frame other = None

-- a flush sent it, and it came to its receiver
abbrev sent_and_taken : List FrameStep
sent_and_taken =
    record { place = 2; event = event.Flush A; outcome = outcome.Sent 1 148 }
    ∷ record { place = 3; event = event.Of 1 frame.Deliver; outcome = outcome.Taken 1 } ∷ []

-- so it is shown wherever the branch stands
frame_shown : map steps_shown (asked_then (frame_of main_name 1 ∷ back 4 ∷ frame_of main_name 1 ∷ forward 4 ∷ [])) ≡ sent_and_taken ∷ []
    ∷ sent_and_taken ∷ [] ∷ []
unfolding computing
frame_shown = refl

-- the frame is the one that is in flight after the event that sent it
frame_as_sent : map first_frame (asked_then (frame_of main_name 1 ∷ [])) ≡ map first_frame (asked_then (past main_name 2 ∷ []))
unfolding computing
frame_as_sent = refl

no_frame : asked_then (frame_of main_name 0 ∷ frame_of main_name 2 ∷ frame_of (codes "x") 1 ∷ []) ≡ reply.Refused refused.NoFrame
    ∷ reply.Refused refused.NoFrame ∷ reply.Refused refused.NoBranch ∷ []
unfolding computing
no_frame = refl

-- the former list and cursor are not counted
counted_without : summary (final after_four (excise 1 ∷ [])) 5 ≡ 5 ∷ 1 ∷ 1 ∷ 1 ∷ 1 ∷ 0 ∷ 0 ∷ 1 ∷ []
unfolding computing
counted_without = refl
