use Rattle.pfl_queue.proofs.Fronts.{frames_take_from_the_front}
use Rattle.pfl_queue.proofs.laws.frames_take_from_the_front.Goals as goal

pub returns : goal.returns
returns c = frames_take_from_the_front
