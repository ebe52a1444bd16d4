use Rattle.pfl_timeline.proofs.Answering.{looks-still}
use Rattle.pfl_timeline.proofs.laws.looks_change_nothing.Goals as goal

pub returns : goal.returns
returns c = looks-still
