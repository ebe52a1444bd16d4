-- Laws of searches, in words of runs (this project's profile).
use Rattle.std.specs.Prelude.{◌≡◌, ◌≤◌, ◌+◌, ◌↔◌, ℕ, List, length, Contains, Some, None, is_some, IsTrue, IsFalse}
use Rattle.pfl_language.specs.declared.event.Event.{Event}
use Rattle.pfl_world.specs.Runs.{run}
use Rattle.pfl_world.specs.Worlds.{World, IsWorld}
use Rattle.pfl_search.specs.Choices.{start}
use Rattle.pfl_search.specs.Goals.{is_asked, meets}
use Rattle.pfl_search.specs.Ordered.{IsOrdered}
use Rattle.pfl_search.specs.Runs.{EndBefore, IsRunOf, first_run, shortest_run}
use Rattle.pfl_search.specs.Visits.{Visit, asked_to_shortest, visits}
use Rattle.pfl_language.specs.declared.choice.Choice.{Choice}
use Rattle.pfl_language.specs.declared.goal.Goal.{Goal}

-- a run of choices leads to a world
abbrev pub RunsLeadSomewhere : Type 0
RunsLeadSomewhere = (cs : List Choice) (w : World) (es : List Event) → IsRunOf cs w es → IsTrue (is_some (run w es))

-- the visit is of a run of the choices, of at most `depth` events, and of the world that it leads to
pub record IsVisit (depth : ℕ) (cs : List Choice) (w : World) (v : Visit) : Type 0 where
  pub is_run : IsRunOf cs w v.run
  pub within : length v.run + v.more ≡ depth
  pub reached : run w v.run ≡ Some v.world

-- each world that is visited is one that a run of the choices leads to
abbrev pub VisitsAreOfRuns : Type 0
VisitsAreOfRuns = (depth : ℕ) (cs : List Choice) (w : World) (v : Visit) → Contains (visits None depth (start cs) w) v → IsVisit depth cs w v

-- the world is visited, by a run of the choices of this number of events
pub record IsVisitedIn (events depth : ℕ) (cs : List Choice) (w last : World) : Type 0 where
  pub visit : Visit
  pub visited : Contains (visits None depth (start cs) w) visit
  pub is_run : IsRunOf cs w visit.run
  pub as_long : length visit.run ≡ events
  pub same_world : visit.world ≡ last

-- each world that a run of the choices leads to is visited, by a run of the choices that is as long
abbrev pub RunsAreVisited : Type 0
RunsAreVisited =
    (depth : ℕ) (cs : List Choice) (w last : World) (es : List Event) → IsWorld w → IsRunOf cs w es → length es ≤ depth → run w es ≡ Some last
    → IsVisitedIn (length es) depth cs w last

-- the visits are exactly those of the ordered runs: of two events of one phase that commute one order is tried
abbrev pub VisitsAreOrdered : Type 0
VisitsAreOrdered =
    (depth : ℕ) (cs : List Choice) (w : World) (v : Visit) → Contains (visits None depth (start cs) w) v
    ↔ (IsVisit depth cs w v × IsOrdered None (start cs) w v.run)

-- where no run is found, none of the choices leads to a world that meets the goal
abbrev pub NoneIsExhaustive : Type 0
NoneIsExhaustive =
    (goal : Goal) (depth : ℕ) (cs : List Choice) (w last : World) (es : List Event) → IsWorld w → first_run goal depth cs w ≡ None
    → IsRunOf cs w es → length es ≤ depth → run w es ≡ Some last → IsFalse (meets goal last)

-- where no run of the choices has exactly this number of events, none has more
abbrev pub RunsEnd : Type 0
RunsEnd = (depth : ℕ) (cs : List Choice) (w : World) → ((es : List Event) → IsRunOf cs w es → ¬ (length es ≡ depth)) → EndBefore depth cs w

-- no run of the choices of at most `depth` events leads to a world in which the question is asked
abbrev pub NeverAsked : Goal → ℕ → List Choice → World → Type 0
NeverAsked goal depth cs w =
    (es : List Event) (last : World) → IsRunOf cs w es → length es ≤ depth → run w es ≡ Some last → IsFalse (is_asked goal.scope last)

-- where no run is found, the question was asked in no visit exactly where no run leads to a world in which it is asked
abbrev pub NoVisitIsNeverAsked : Type 0
NoVisitIsNeverAsked =
    (goal : Goal) (depth : ℕ) (cs : List Choice) (w : World) → IsWorld w → shortest_run goal depth cs w ≡ None
    → (asked_to_shortest goal depth cs w ≡ 0) ↔ NeverAsked goal depth cs w
