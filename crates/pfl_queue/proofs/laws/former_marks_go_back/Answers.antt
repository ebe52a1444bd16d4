use Rattle.pfl_queue.proofs.GoingBack.{former_marks_go_back}
use Rattle.pfl_queue.proofs.laws.former_marks_go_back.Goals as goal

pub returns : goal.returns
returns c = former_marks_go_back
