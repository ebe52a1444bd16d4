-- How what is kept stands for a history, a branch and a timeline. M is the allocator of the frames in edits, of which nothing is
-- said (this project's profile).
use Rattle.std.specs.Prelude.{◌≡◌, ◌≤◌, ℕ, List, [], ◌∷◌, length, get_or, map, take, Option, Some, is_some, IsTrue, IfSome}
use Rattle.std.specs.List.{AllByRecursion}
use Rattle.std.specs.Map.{values_of}
use Rattle.std.specs.Option.{option_map}
use Rattle.pfl_edits.specs.Changes.{back, Fits}
use Rattle.pfl_edits.specs.Tapes.{above}
use Rattle.pfl_search.specs.world.rules.Rules.{Rules}
use Rattle.pfl_language.specs.declared.event.Event.{Event}
use Rattle.pfl_language.specs.BranchWords.{is_branch_name}
use Rattle.pfl_language.specs.Limits.{default_limits}
use Rattle.pfl_search.specs.world.declared.edit.WorldEdit.{WorldEdit}
use Rattle.pfl_search.specs.world.Runs.{run}
use Rattle.pfl_search.specs.world.WorldEdits.{Finds, put_back}
use Rattle.pfl_search.specs.world.Worlds.{World, IsWorld, new_world}
use Rattle.pfl_timeline.specs.Histories.{History}
use Rattle.pfl_timeline.specs.Rooted.{Rooted}
use Rattle.pfl_timeline.specs.Timelines.{Former, Timeline, IsTimeline}

-- ---- a history: its world, its events, the tape of what those before the cursor changed, and a mark for each of these

-- the history that they stand for: it begins where the whole tape is taken back
abbrev pub history : {M : Type 0} → World → List Event → List (WorldEdit M) → List ℕ → History
history w events tape marks = record { opening = back put_back tape w; events = events; cursor = length marks }

-- how long the tape was when the first k events stood; with all of them it is as long as it is
abbrev pub mark_at : {E : Type 0} → List E → List ℕ → ℕ → ℕ
mark_at tape marks k = get_or marks k (length tape)

-- the marks lead back from the world to an opening: what is above the mark of k taken back, it is the world that the first k
-- events give
pub record IsKept {M : Type 0} (w : World) (events : List Event) (tape : List (WorldEdit M)) (marks : List ℕ) : Type 0 where
  pub opening : IsWorld (back put_back tape w)
  pub within : length marks ≤ length events
  pub fits : Fits Finds IsWorld put_back tape w
  pub rising : (j k : ℕ) → j ≤ k → mark_at tape marks j ≤ mark_at tape marks k
  pub each : (k : ℕ) → k ≤ length marks → run (back put_back tape w) (take k events) ≡ Some (back put_back (above (mark_at tape marks k) tape) w)
  pub whole : IsTrue (is_some (run (back put_back tape w) events))

-- ---- a branch: its name, its history, and the one from before the newest excision

-- what is said of a former history
abbrev pub former_of : History → Former
former_of h = record { events = h.events; cursor = h.cursor }

-- the branch that they stand for
abbrev pub rooted : List ℕ → History → Option History → Rooted
rooted name h former = record {
  opening = h.opening;
  branch = record { name = name; events = h.events; cursor = h.cursor; former = option_map former_of former };
}

-- the name is one for a branch, and both histories begin from one opening
pub record IsNamed (name : List ℕ) (h : History) (former : Option History) : Type 0 where
  pub named : IsTrue (is_branch_name name)
  pub one_opening : IfSome former (λ f. f.opening ≡ h.opening)

-- ---- a timeline: its branches

-- a pair that stands where there is no branch, which no timeline meets
abbrev nowhere : World
nowhere =
    let rules : Rules = record { list = []; timeouts = []; print = [] } in
    new_world default_limits rules rules

-- the opening is the one that the first branch begins from
abbrev pub opening_of : List Rooted → World
opening_of [] = nowhere
opening_of (r ∷ rs) = r.opening

-- the timeline of the branches
abbrev pub timeline_of : List Rooted → Timeline
timeline_of rs = record { opening = opening_of rs; branches = map (λ r. r.branch) rs }

-- all branches begin from one opening, and make a timeline
pub record AreKept (rs : List Rooted) : Type 0 where
  pub one_opening : AllByRecursion (λ r. r.opening ≡ opening_of rs) rs
  pub timeline : IsTimeline (timeline_of rs)

-- each branch under its name
abbrev pub by_name : List Rooted → List (List ℕ × Rooted)
by_name rs = map (λ r. (r.branch.name, r)) rs

-- the branches stand under their names, and make a timeline
pub record StandByName (es : List (List ℕ × Rooted)) : Type 0 where
  pub named : es ≡ by_name (values_of es)
  pub kept : AreKept (values_of es)
