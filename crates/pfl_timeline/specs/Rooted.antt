-- A branch beside the opening of its timeline, and what it replies for the timeline (this project's profile).
use Rattle.std.specs.Prelude.{Option}
use Rattle.pfl_search.specs.world.Worlds.{World}
use Rattle.pfl_search.specs.world.Runs.{run}
use Rattle.pfl_timeline.specs.Timelines.{Branch, standing}

-- a branch with the opening that it begins from
pub record Rooted : Type 0 where
  pub opening : World
  pub branch : Branch

-- the world that it shows
abbrev pub shown : Rooted → Option World
shown r = run r.opening (standing r.branch)
