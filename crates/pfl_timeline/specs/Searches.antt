-- Searches from where a branch stands: what a search returns, and what the answer means. It changes nothing (this project's profile).
use Rattle.std.specs.Prelude.{◌≤◌, ◌↔◌, ℕ, Bool, nat_lt, List, length, Option, Some, None, if◌then◌else◌, IsTrue}
use Rattle.std.specs.Option.{option_map_or}
use Rattle.pfl_language.specs.declared.choice.Choice.{Choice}
use Rattle.pfl_language.specs.declared.event.Event.{Event}
use Rattle.pfl_language.specs.declared.goal.Goal.{Goal}
use Rattle.pfl_language.specs.declared.refused.Refused.{Refused as Refusal}
use Rattle.pfl_language.specs.declared.refused.Refused.TheVariants as refused
use Rattle.pfl_search.specs.Runs.{EndBefore, LeadsTo, NeverLeads, shortest_run}
use Rattle.pfl_search.specs.Visits.{asked_to_shortest, is_ended, visited_to_shortest}
use Rattle.pfl_search.specs.world.Worlds.{World}
use Rattle.pfl_timeline.specs.declared.finding.Finding.{Finding as GivenFinding}
use Rattle.pfl_timeline.specs.declared.finding.Finding.TheVariants as given
use Rattle.pfl_timeline.specs.Timelines.{Branch, Timeline, branch_of, world_of}

-- what is searched for: a goal, by runs of choices of at most `depth` events, at most `most` of which are tried
pub record Sought : Type 0 where
  pub goal : Goal
  pub depth : ℕ
  pub choices : List Choice
  pub most : ℕ

-- a search for this goal
abbrev pub sought : Goal → ℕ → List Choice → ℕ → Sought
sought goal depth choices most = record { goal = goal; depth = depth; choices = choices; most = most }

-- the events are a run of the choices to the goal, within the depth
abbrev pub Reaches : Sought → World → List Event → Type 0
Reaches s w es = LeadsTo s.goal s.depth s.choices w es

-- an answer: the branch, a run, and how many runs were tried; or none within the depth, how many runs were tried, how often the
-- question was asked, and whether all runs have fewer events; or too many were to be tried; or why nothing was searched
pub data Finding : Type 0 where
  Found : List ℕ → List Event → ℕ → Finding
  Nothing : ℕ → ℕ → ℕ → Bool → Finding
  GaveUp : ℕ → Finding
  Refused : Refusal → Finding

-- what an answer of the code reports
abbrev pub finding_of : {M : Type 0} → GivenFinding M → Finding
finding_of (given.Found name run tried) = Found name run.items tried
finding_of (given.Nothing depth tried asked ended) = Nothing depth tried asked ended
finding_of (given.GaveUp most) = GaveUp most
finding_of (given.Refused why) = Refused why

-- the run that was found, if there is one
abbrev pub found_by : List ℕ → ℕ → ℕ → ℕ → Bool → Option (List Event) → Finding
found_by name depth tried asked ended None = Nothing depth tried asked ended
found_by name depth tried asked ended (Some run) = Found name run tried

-- how many runs are to be tried from a world
abbrev pub runs_to_try : Sought → World → ℕ
runs_to_try s w = visited_to_shortest s.goal s.depth s.choices w

-- how often the question is asked of the worlds that these lead to
abbrev pub times_asked : Sought → World → ℕ
times_asked s w = asked_to_shortest s.goal s.depth s.choices w

-- whether no run that is tried has as many events as there may be
abbrev pub all_end : Sought → World → Bool
all_end s w = is_ended s.goal s.depth s.choices w

-- a shortest run to the goal from the world that the branch shows, unless too many were to be tried for it
unfoldable pub finding_from : Sought → Branch → World → Finding
finding_from s b w =
    if nat_lt s.most (runs_to_try s w) then GaveUp s.most
    else found_by b.name s.depth (runs_to_try s w) (times_asked s w) (all_end s w) (shortest_run s.goal s.depth s.choices w)

-- the same of a branch; it shows a world, since all its events were accepted
abbrev pub finding_on : Timeline → Sought → Branch → Finding
finding_on t s b = option_map_or (finding_from s b) (world_of t b) (Refused refused.NoBranch)

-- what a search from where the branch of the name stands returns
abbrev pub finding : Timeline → List ℕ → Sought → Finding
finding t name s = option_map_or (finding_on t s) (branch_of t name) (Refused refused.NoBranch)

-- No run of the choices within the depth leads to the goal; and if it is said that all of them have fewer events, which is said just
-- where it is so, then no run of any length does.
pub record IsNone (s : Sought) (w : World) (ended : Bool) : Type 0 where
  pub none : (events : List Event) → ¬ (Reaches s w events)
  pub fewer : IsTrue ended ↔ EndBefore s.depth s.choices w
  pub never : IsTrue ended → NeverLeads s.goal s.choices w

-- What an answer means in the world from which it was searched: a run that was found leads to the goal, and none with fewer events
-- does; where there is none, there is none.
abbrev pub IsAnswer : Sought → World → Finding → Type 0
IsAnswer s w (Found name run tried) = Reaches s w run × ((events : List Event) → Reaches s w events → length run ≤ length events)
IsAnswer s w (Nothing depth tried asked ended) = IsNone s w ended
IsAnswer s w _ = Unit {0}
