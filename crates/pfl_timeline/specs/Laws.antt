-- Laws of timelines, in their own words (this project's profile).
use Rattle.std.specs.Prelude.{◌≡◌, ◌≢◌, ℕ, ◌+◌, ◌-◌, ◌≤◌, ◌&&◌, Bool, true, false, List, [], ◌∷◌, length, map, take, drop, Option, Some, None, is_some, IsTrue}
use Rattle.std.specs.Prelude.{IsFalse, slice_get, Result, Ok, Err}
use Rattle.std.specs.List.{AllByRecursion}
use Rattle.std.specs.Option.{option_map}
use Rattle.pfl_base.specs.declared.refusal.Refusal.{Refusal}
use Rattle.pfl_base.specs.declared.refusal.Refusal.TheVariants.{NoMemory}
use Rattle.pfl_language.specs.declared.event.Event.{Event}
use Rattle.pfl_language.specs.declared.outcome.Outcome.{Outcome}
use Rattle.pfl_language.specs.declared.ask.Ask.{Ask}
use Rattle.pfl_language.specs.declared.ask.Ask.TheVariants as ask
use Rattle.pfl_language.specs.declared.command.Command.{Command}
use Rattle.pfl_language.specs.declared.command.Command.TheVariants as command
use Rattle.pfl_language.specs.declared.refused.Refused.TheVariants as refused
use Rattle.pfl_language.specs.BranchWords.{main_name, same_name}
use Rattle.pfl_search.specs.world.Events.{step}
use Rattle.pfl_search.specs.world.Meanings.{Stepped}
use Rattle.pfl_search.specs.world.Runs.{run}
use Rattle.pfl_search.specs.world.Worlds.{World, IsWorld}
use Rattle.pfl_reasons.specs.Explaining.{explained}
use Rattle.pfl_timeline.specs.Commands.{replied, with_changed, step_command, show_command, past_command, why_command, why_step_command, log_command}
use Rattle.pfl_timeline.specs.Commands.{command_step, replayed}
use Rattle.pfl_timeline.specs.Excisions.{without, has_event}
use Rattle.pfl_timeline.specs.Memory.{is_refusal}
use Rattle.pfl_timeline.specs.Replies as reply
use Rattle.pfl_timeline.specs.Replies.{Reply}
use Rattle.pfl_timeline.specs.Timelines.{Branch, Timeline, IsTimeline, branch_of, new_timeline, standing, world_of}

-- the one branch `main` over a world is a timeline
abbrev pub NewTimelinesAreTimelines : Type 0
NewTimelinesAreTimelines = (w : World) → IsWorld w → IsTimeline (new_timeline w)

-- whatever commands come, refused ones too, they leave a timeline
abbrev pub CommandsKeepTimelines : Type 0
CommandsKeepTimelines = (t : Timeline) (cs : List Command) → IsTimeline t → IsTimeline (replayed t cs)

-- each branch of a timeline shows a world
abbrev pub BranchesShowWorlds : Type 0
BranchesShowWorlds = (t : Timeline) → IsTimeline t → AllByRecursion (λ b. IsTrue (is_some (world_of t b))) t.branches

-- no reply reports want of memory, which is returned in place of a reply
abbrev pub NoReplyReportsWantOfMemory : Type 0
NoReplyReportsWantOfMemory = (t : Timeline) (c : Command) → (command_step t c).reply ≢ reply.Refused (refused.Event NoMemory)

-- a step of each event on `main`
abbrev pub steps : List Event → List Command
steps es = map (λ e. command.On main_name (ask.Step e)) es

-- the one branch `main` with these events, which all stand
abbrev pub all_stand : World → List Event → Timeline
all_stand opening es = record { opening = opening; branches = record { name = main_name; events = es; cursor = length es; former = None } ∷ [] }

-- the events, stepped one after another on the opening, all stand, and `main` shows the world
pub record StepsShow (opening : World) (es : List Event) (w : World) : Type 0 where
  pub timeline : replayed (new_timeline opening) (steps es) ≡ all_stand opening es
  pub shown : (show_command (replayed (new_timeline opening) (steps es)) main_name).reply ≡ reply.Shown main_name (length es) (length es) w

-- events that have a run, stepped one after another, show the world of their run
abbrev pub StepsAreRuns : Type 0
StepsAreRuns = (opening : World) (es : List Event) (w : World) → run opening es ≡ Some w → StepsShow opening es w

-- what is asked may change the branch
abbrev pub changes : Ask → Bool
changes (ask.Step e) = true
changes (ask.Back n) = true
changes (ask.Forward n) = true
changes (ask.Excise k) = true
changes ask.Restore = true
changes _ = false

-- a question that only looks at a branch changes nothing
abbrev pub LooksChangeNothing : Type 0
LooksChangeNothing = (t : Timeline) (name : List ℕ) (q : Ask) → IsFalse (changes q) → (command_step t (command.On name q)).timeline ≡ t

-- a command that is refused changes nothing
abbrev pub RefusedCommandsChangeNothing : Type 0
RefusedCommandsChangeNothing = (t : Timeline) (c : Command) → IsTrue (is_refusal (command_step t c).reply) → (command_step t c).timeline ≡ t

-- the command changes, makes or removes the branch of this name
abbrev pub touches : Command → List ℕ → Bool
touches (command.On of q) name = changes q && same_name of name
touches (command.Fork from k new) name = same_name new name
touches (command.Drop of) name = same_name of name
touches command.Names name = false

-- a command leaves every other branch as it was
abbrev pub CommandsLeaveOthers : Type 0
CommandsLeaveOthers = (t : Timeline) (c : Command) (name : List ℕ) → IsFalse (touches c name) → branch_of (command_step t c).timeline name ≡ branch_of t name

-- the events before the branch's cursor have a run from the opening, the branch shows the world of it, and a log lists the events
pub record ShowsItsRun (opening : World) (t : Timeline) (b : Branch) : Type 0 where
  pub world : World
  pub runs : run opening (standing b) ≡ Some world
  pub shown : (show_command t b.name).reply ≡ reply.Shown b.name (length b.events) b.cursor world
  pub logged : (log_command t b.name).reply ≡ reply.Logged b.name b.events b.cursor

-- whatever commands came, each branch shows the run of those events before its cursor that its log lists
abbrev pub BranchesShowTheirRuns : Type 0
BranchesShowTheirRuns =
    (opening : World) (cs : List Command) → IsWorld opening
    → let t = replayed (new_timeline opening) cs in AllByRecursion (ShowsItsRun opening t) t.branches

-- what is seen of a branch at a place is what it shows when it stands there
abbrev pub PastsAreShown : Type 0
PastsAreShown =
    (t : Timeline) (name : List ℕ) (k : ℕ) (b : Branch) → branch_of t name ≡ Some b → k ≤ length b.events
    → past_command t name k ≡ replied t (show_command (with_changed t (record b { cursor = k })) name).reply

-- the timeline where the branch stands before its k-th event
abbrev pub standing_before : ℕ → Branch → Timeline → Timeline
standing_before k b t = with_changed t (record b { cursor = k - 1 })

-- the branch's k-th event, the world that the branch shows where it stands before it, and the outcome that a step of it has there:
-- the event and the outcome are reported, and why it has that in that world
pub record IsExplained (t : Timeline) (name : List ℕ) (k : ℕ) (b : Branch) : Type 0 where
  pub event : Event
  pub world : World
  pub outcome : Outcome
  pub there : slice_get b.events (k - 1) ≡ Some event
  pub shown : (show_command (standing_before k b t) name).reply ≡ reply.Shown b.name (length b.events) (k - 1) world
  pub stepped : (step_command (standing_before k b t) name event).reply ≡ reply.Stepped outcome (length b.events - (k - 1))
  pub reported : why_command t name k ≡ replied t (reply.Explained b.name k event (Ok outcome) (explained world event))

-- what is reported of an event of a branch is what a step of it replies where the branch stands before it
abbrev pub WhysAreSteps : Type 0
WhysAreSteps = (t : Timeline) (name : List ℕ) (k : ℕ) (b : Branch) → IsTimeline t → branch_of t name ≡ Some b → IsTrue (has_event k b) → IsExplained t name k b

-- the reply to a step that comes to this, where this number of events had been undone
abbrev pub step_told : ℕ → Result Outcome Refusal → Reply
step_told dropped (Ok outcome) = reply.Stepped outcome dropped
step_told dropped (Err why) = reply.Refused (refused.Event why)

-- the world that the branch shows, and what a step of the event comes to there: it is reported, and why
pub record IsForetold (t : Timeline) (name : List ℕ) (e : Event) (b : Branch) : Type 0 where
  pub world : World
  pub came : Result Outcome Refusal
  pub shown : (show_command t name).reply ≡ reply.Shown b.name (length b.events) b.cursor world
  pub stepped : (step_command t name e).reply ≡ step_told (length b.events - b.cursor) came
  pub reported : why_step_command t name e ≡ replied t (reply.Explained b.name (b.cursor + 1) e came (explained world e))

-- what is reported of an event that has not happened is what a step of it replies
abbrev pub WhysForetellSteps : Type 0
WhysForetellSteps = (t : Timeline) (name : List ℕ) (e : Event) (b : Branch) → IsTimeline t → branch_of t name ≡ Some b → IsForetold t name e b

-- ---- an event taken out of the middle

-- an event is accepted or left out, and the others come after it
abbrev pub accepted_with : World → Event → (World → List Event) → Result Stepped Refusal → List Event
accepted_with w e rest (Ok s) = e ∷ rest s.world
accepted_with w e rest (Err why) = rest w

-- of events that come one after another those that are accepted; the others are left out
unfoldable pub accepted_events : World → List Event → List Event
accepted_events w [] = []
accepted_events w (e ∷ es) = accepted_with w e (λ v. accepted_events v es) (step w e)

-- the events of the branch of the name
abbrev pub events_of : Timeline → List ℕ → Option (List Event)
events_of t name = option_map (λ b. b.events) (branch_of t name)

-- an excision leaves what the list without the event gives
abbrev pub ExcisionsAreRunsWithout : Type 0
ExcisionsAreRunsWithout =
    (t : Timeline) (name : List ℕ) (k : ℕ) (b : Branch) → branch_of t name ≡ Some b → IsTrue (has_event k b)
    → events_of (command_step t (command.On name (ask.Excise k))).timeline name ≡ Some (accepted_events t.opening (without k b.events))

-- those stand that stood and are accepted
abbrev pub ExcisionsLeaveStanding : Type 0
ExcisionsLeaveStanding =
    (t : Timeline) (name : List ℕ) (k : ℕ) (b : Branch) → branch_of t name ≡ Some b → IsTrue (has_event k b)
    → option_map standing (branch_of (command_step t (command.On name (ask.Excise k))).timeline name) ≡ Some (accepted_events t.opening (without k (standing b)))

-- the place of an event that is refused is listed, and the others come after it
abbrev pub refused_with : World → ℕ → (World → List ℕ) → Result Stepped Refusal → List ℕ
refused_with w place rest (Ok s) = rest s.world
refused_with w place rest (Err why) = place ∷ rest w

-- of events that come one after another, the places of those that are refused; n is the place in front of the first
unfoldable pub refused_behind : ℕ → World → List Event → List ℕ
refused_behind n w [] = []
refused_behind n w (e ∷ es) = refused_with w (n + 1) (λ v. refused_behind (n + 1) v es) (step w e)

-- the reply lists the places of the events after it that are refused where the world in front of it goes on
abbrev pub ExcisionsReportTheRefused : Type 0
ExcisionsReportTheRefused =
    (t : Timeline) (name : List ℕ) (k : ℕ) (b : Branch) (w : World) → branch_of t name ≡ Some b → IsTrue (has_event k b)
    → run t.opening (take (k - 1) b.events) ≡ Some w
    → (command_step t (command.On name (ask.Excise k))).reply ≡ reply.Excised (refused_behind k w (drop k b.events))

-- where the list without the event has a run, no other event falls out
abbrev pub NothingElseFallsOut : Type 0
NothingElseFallsOut =
    (t : Timeline) (name : List ℕ) (k : ℕ) (b : Branch) → branch_of t name ≡ Some b → IsTrue (has_event k b)
    → IsTrue (is_some (run t.opening (without k b.events))) → (command_step t (command.On name (ask.Excise k))).reply ≡ reply.Excised []

-- a restoration takes an excision back
abbrev pub RestorationsTakeBack : Type 0
RestorationsTakeBack =
    (t : Timeline) (name : List ℕ) (k : ℕ) (b : Branch) → branch_of t name ≡ Some b → IsTrue (has_event k b)
    → branch_of (replayed t (command.On name (ask.Excise k) ∷ command.On name ask.Restore ∷ [])) name ≡ Some (record b { former = None })
