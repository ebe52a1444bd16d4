use Rattle.pfl_queue.proofs.Calls.{nothing_twice}
use Rattle.pfl_queue.proofs.laws.nothing_is_queued_twice.Goals as goal

pub returns : goal.returns
returns c = nothing_twice
