use Rattle.pfl_timeline.proofs.Others.{others-stay}
use Rattle.pfl_timeline.proofs.laws.commands_leave_others.Goals as goal

pub returns : goal.returns
returns c = others-stay
