use Rattle.pfl_track.proofs.Testing.{edges-agree}
use Rattle.pfl_track.proofs.laws.tests_agree.Goals as goal

pub returns : goal.returns
returns c = edges-agree
