-- Runs of choices, and where they lead (this project's profile).
use Rattle.std.specs.Prelude.{◌≡◌, ◌≤◌, ◌<◌, ◌+◌, ℕ, zero, suc, List, [], ◌∷◌, length, slice_get, Contains, Option, Some, None, Ok, IsTrue}
use Rattle.std.specs.Option.{option_map, option_or}
use Rattle.pfl_language.specs.declared.event.Event.{Event}
use Rattle.pfl_world.specs.Events.{step}
use Rattle.pfl_world.specs.Meanings.{Stepped}
use Rattle.pfl_world.specs.Runs.{run}
use Rattle.pfl_world.specs.Worlds.{World}
use Rattle.pfl_search.specs.Choices.{Stage, instances, start, taken}
use Rattle.pfl_search.specs.Goals.{meets}
use Rattle.pfl_search.specs.Visits.{first_visit_after}
use Rattle.pfl_language.specs.declared.choice.Choice.{Choice}
use Rattle.pfl_search.specs.declared.order.Last.{Last}
use Rattle.pfl_language.specs.declared.goal.Goal.{Goal}
use Rattle.pfl_search.specs.declared.stopped.Stopped.{Stopped}
use Rattle.pfl_search.specs.declared.stopped.Stopped.TheVariants.{NoMemory, TooMany}

-- An event is one of a choice whose phase is not over and that has a use left, it is accepted, and the rest has that use no more, nor
-- any choice of an earlier phase.
pub record Begins (st : Stage) (w : World) (e : Event) (rest : Stage → World → Type 0) : Type 0 where
  pub place : ℕ
  pub choice : Choice
  pub at : slice_get st.choices place ≡ Some choice
  pub not_over : st.phase ≤ choice.phase
  pub left : 0 < choice.uses
  pub fits : Contains (instances w choice.what) e
  pub gives : Stepped
  pub accepted : step w e ≡ Ok gives
  pub goes_on : rest (taken st place choice.phase) gives.world

-- each event is one of a choice that has a use left when it comes, no event of a later phase came before it, and it is accepted there
abbrev pub IsRun : Stage → World → List Event → Type 0
IsRun st w [] = Unit {0}
IsRun st w (e ∷ es) = Begins st w e (λ left v. IsRun left v es)

-- a run of choices from the start
abbrev pub IsRunOf : List Choice → World → List Event → Type 0
IsRunOf cs w es = IsRun (start cs) w es

-- each run of the choices has fewer events
abbrev pub EndBefore : ℕ → List Choice → World → Type 0
EndBefore depth cs w = (es : List Event) → IsRunOf cs w es → length es < depth

-- the events are a run of the choices, no more than `depth`, and the world that they lead to meets the goal
pub record LeadsTo (goal : Goal) (depth : ℕ) (cs : List Choice) (w : World) (es : List Event) : Type 0 where
  pub is_run : IsRunOf cs w es
  pub within : length es ≤ depth
  pub world : World
  pub reached : run w es ≡ Some world
  pub met : IsTrue (meets goal world)

-- no run of the choices leads to the goal, however long
abbrev pub NeverLeads : Goal → List Choice → World → Type 0
NeverLeads goal cs w = (depth : ℕ) (es : List Event) → ¬ (LeadsTo goal depth cs w es)

-- the first run after the last event that leads to the goal: that of the first world which meets it
abbrev pub first_run_after : Option Last → Goal → ℕ → Stage → World → Option (List Event)
first_run_after last goal depth st w = option_map (λ v. v.run) (first_visit_after last goal depth st w)

-- the first run that leads to the goal, where no event came before
abbrev pub first_run : Goal → ℕ → List Choice → World → Option (List Event)
first_run goal depth cs w = first_run_after None goal depth (start cs) w

-- the run that searches of this depth and of each that is deeper by up to `more` find first
unfoldable pub first_deeper : Goal → ℕ → ℕ → List Choice → World → Option (List Event)
first_deeper goal zero depth cs w = first_run goal depth cs w
first_deeper goal (suc more) depth cs w = option_or (first_run goal depth cs w) (first_deeper goal more (depth + 1) cs w)

-- the run that searches of each depth from 0 on find first: of the shortest runs that lead to the goal, the first
abbrev pub shortest_run : Goal → ℕ → List Choice → World → Option (List Event)
shortest_run goal depth cs w = first_deeper goal depth 0 cs w

-- why there is no answer: there was no memory, or more worlds were to be visited than might be
abbrev pub IsStop : ℕ → ℕ → Stopped → Type 0
IsStop most worlds NoMemory = Unit {0}
IsStop most worlds TooMany = most < worlds
