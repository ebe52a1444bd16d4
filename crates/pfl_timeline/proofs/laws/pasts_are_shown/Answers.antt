use Rattle.pfl_timeline.proofs.Pasts.{pasts-are-shown}
use Rattle.pfl_timeline.proofs.laws.pasts_are_shown.Goals as goal

pub returns : goal.returns
returns c = pasts-are-shown
