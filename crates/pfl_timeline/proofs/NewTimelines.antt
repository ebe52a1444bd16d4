-- The timeline that opens over a world is a timeline.
use Rattle.std.specs.List.{IsDistinct}
use Rattle.std.proofs.Common.{arith, refl}
use Rattle.pfl_search.specs.world.Runs.{run}
use Rattle.pfl_timeline.specs.Laws.{NewTimelinesAreTimelines}

pub new_timeline-is : NewTimelinesAreTimelines
unfolding run IsDistinct
new_timeline-is w is = record {
  opening = is;
  some = omega arith;
  few = omega arith;
  names = (tt, tt);
  branches = (record { name = refl; within = omega arith; runs = refl; former = tt }, tt);
}
