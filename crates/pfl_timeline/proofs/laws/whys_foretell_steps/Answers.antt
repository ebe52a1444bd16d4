use Rattle.pfl_timeline.proofs.Whys.{whys-foretell-steps}
use Rattle.pfl_timeline.proofs.laws.whys_foretell_steps.Goals as goal

pub returns : goal.returns
returns c = whys-foretell-steps
