use Rattle.std.specs.Prelude.{◌≡◌, ◌≤◌, ◌+◌, ◌-◌}
use Rattle.pfl_search.proofs.Deepening.{NoneBelow}
use Rattle.pfl_search.specs.Runs.{first_deeper, shortest_run}
use Rattle.pfl_search.specs.Visits.{asked_to_shortest, asking, each, tally_deeper, visited_to_shortest}
use Rattle.pfl_search.proofs.shortest.search_shortest.Given as goal

-- no run of fewer events leads to the goal, and what the searches that are left find and visit is the rest of all
abbrev pub invariant-loop-few : goal.invariant-loop-few
invariant-loop-few g l = record {
  world : l.world ≡ l.fn.world;
  below : NoneBelow l.goal l.few l.depth l.choices l.fn.world;
  first : first_deeper l.goal (l.depth - l.few) l.few l.choices l.fn.world ≡ shortest_run l.goal l.depth l.choices l.fn.world;
  worlds : l.worlds + tally_deeper each l.goal (l.depth - l.few) l.few l.choices l.fn.world ≡ visited_to_shortest l.goal l.depth l.choices l.fn.world;
  asked : l.asked + tally_deeper (asking l.goal) l.goal (l.depth - l.few) l.few l.choices l.fn.world
      ≡ asked_to_shortest l.goal l.depth l.choices l.fn.world;
  fewer : l.asked ≤ l.worlds;
  within : l.worlds ≤ l.most;
}
