use Rattle.pfl_timeline.proofs.Stepped.{steps-run}
use Rattle.pfl_timeline.proofs.laws.steps_are_runs.Goals as goal

pub returns : goal.returns
returns c = steps-run
