-- Runs in which, of two events of one phase that commute, one order alone is tried (this project's profile).
use Rattle.std.specs.Prelude.{◌≡◌, List, [], ◌∷◌, length, Option, Some, None, IsTrue}
use Rattle.pfl_language.specs.declared.event.Event.{Event}
use Rattle.pfl_world.specs.Runs.{run}
use Rattle.pfl_world.specs.Worlds.{World, IsWorld}
use Rattle.pfl_search.specs.Choices.{Stage}
use Rattle.pfl_search.specs.Orders.{in_phase, is_in_turn, last_of}
use Rattle.pfl_search.specs.Runs.{Begins, IsRun}
use Rattle.pfl_search.specs.declared.order.Last.{Last}

-- a run of the choices, each event of which is in turn after the one before it if both are of one phase, and so is the first of them
-- after the last one, if there was one
abbrev pub IsOrdered : Option Last → Stage → World → List Event → Type 0
IsOrdered last st w [] = Unit {0}
IsOrdered last st w (e ∷ es) =
    Begins st w e (λ left v. IsTrue (is_in_turn (in_phase last st.phase left.phase) w e) × IsOrdered (Some (last_of w e)) left v es)

-- a run of the choices whose events are in order: it is as long as the events, and leads to the world
pub record InOrder (st : Stage) (w v : World) (es : List Event) : Type 0 where
  pub fs : List Event
  pub ordered : IsOrdered None st w fs
  pub same_length : length fs ≡ length es
  pub same_world : run w fs ≡ Some v

-- where a run of choices leads, a run leads whose events are in order
abbrev pub OrderedRunsSuffice : Type 0
OrderedRunsSuffice = (st : Stage) (w v : World) (es : List Event) → IsWorld w → IsRun st w es → run w es ≡ Some v → InOrder st w v es
