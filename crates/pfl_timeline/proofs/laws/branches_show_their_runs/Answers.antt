use Rattle.pfl_timeline.proofs.Shows.{branches-show-runs}
use Rattle.pfl_timeline.proofs.laws.branches_show_their_runs.Goals as goal

pub returns : goal.returns
returns c = branches-show-runs
