use Rattle.pfl_timeline.proofs.Whys.{whys-are-steps}
use Rattle.pfl_timeline.proofs.laws.whys_are_steps.Goals as goal

pub returns : goal.returns
returns c = whys-are-steps
