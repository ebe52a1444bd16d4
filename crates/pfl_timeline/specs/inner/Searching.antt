-- A search as a history and a branch have it in hand.
use Rattle.std.specs.Prelude.{◌≡◌, ◌≤◌, ℕ, Bool, List, length, Option, IfSome, IfNone}
use Rattle.std.specs.Option.{option_map}
use Rattle.pfl_language.specs.declared.event.Event.{Event}
use Rattle.pfl_search.specs.Runs.{shortest_run}
use Rattle.pfl_search.specs.world.Worlds.{World}
use Rattle.pfl_timeline.specs.Searches.{IsNone, Reaches, Sought, all_end, runs_to_try, times_asked}

-- The search gave this: a shortest run, if there is one; how many were tried, and how many times it was asked; and whether all end.
pub record Gives {V : Type 0} (items : V → List Event) (s : Sought) (w : World) (found : Option V) (tried asked : ℕ) (ended : Bool) : Type 0 where
  pub first : option_map items found ≡ shortest_run s.goal s.depth s.choices w
  pub leads : IfSome found (λ run. Reaches s w (items run))
  pub shortest : IfSome found (λ run. (events : List Event) → Reaches s w events → length (items run) ≤ length events)
  pub none : IfNone found (IsNone s w ended)
  pub ends : IfNone found (ended ≡ all_end s w)
  pub counted : tried ≡ runs_to_try s w
  pub asks : asked ≡ times_asked s w
  pub within : tried ≤ s.most
