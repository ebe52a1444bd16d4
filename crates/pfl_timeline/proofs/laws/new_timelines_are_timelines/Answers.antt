use Rattle.pfl_timeline.proofs.NewTimelines.{new_timeline-is}
use Rattle.pfl_timeline.proofs.laws.new_timelines_are_timelines.Goals as goal

pub returns : goal.returns
returns c = new_timeline-is
