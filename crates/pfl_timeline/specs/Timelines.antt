-- A timeline: an opening world, and branches of events over it (this project's profile).
use Rattle.std.specs.Prelude.{◌≤◌, ℕ, List, [], ◌∷◌, length, map, find, take, Option, None, is_some, IsTrue, IfSome}
use Rattle.std.specs.List.{AllByRecursion, IsDistinct}
use Rattle.pfl_language.specs.BranchWords.{is_branch_name, main_name, same_name}
use Rattle.pfl_language.specs.declared.event.Event.{Event}
use Rattle.pfl_search.specs.world.Worlds.{World, IsWorld}
use Rattle.pfl_search.specs.world.Runs.{run}

-- events that a branch had, and how many of them stood
pub record Former : Type 0 where
  pub events : List Event
  pub cursor : ℕ

-- a branch: events, how many of them stand, and what it had before an event was taken out, if that can be brought back
pub record Branch : Type 0 where
  pub name : List ℕ
  pub events : List Event
  pub cursor : ℕ
  pub former : Option Former

-- branches in the order of their making
pub record Timeline : Type 0 where
  pub opening : World
  pub branches : List Branch

-- the branch of the name
abbrev pub branch_of : Timeline → List ℕ → Option Branch
branch_of t name = find (λ b. same_name b.name name) t.branches

-- the events that stand
abbrev pub standing : Branch → List Event
standing b = take b.cursor b.events

-- the world that a branch shows
unfoldable pub world_of : Timeline → Branch → Option World
world_of t b = run t.opening (standing b)

-- what can be brought back has a run
pub record IsFormer (opening : World) (f : Former) : Type 0 where
  pub within : f.cursor ≤ length f.events
  pub runs : IsTrue (is_some (run opening f.events))

-- a branch of the timeline
pub record IsBranch (opening : World) (b : Branch) : Type 0 where
  pub name : IsTrue (is_branch_name b.name)
  pub within : b.cursor ≤ length b.events
  pub runs : IsTrue (is_some (run opening b.events))
  pub former : IfSome b.former (IsFormer opening)

-- a timeline: 1 to 16 branches under names of their own
pub record IsTimeline (t : Timeline) : Type 0 where
  pub opening : IsWorld t.opening
  pub some : 1 ≤ length t.branches
  pub few : length t.branches ≤ 16
  pub names : IsDistinct same_name (map (λ b. b.name) t.branches)
  pub branches : AllByRecursion (IsBranch t.opening) t.branches

-- the one branch `main`, empty
abbrev pub new_timeline : World → Timeline
new_timeline opening = record { opening = opening; branches = record { name = main_name; events = []; cursor = 0; former = None } ∷ [] }
