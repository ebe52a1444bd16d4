use Rattle.std.proofs.Common.{subst}
use Rattle.pfl_queue.specs.Queues.{IsQueue}
use Rattle.pfl_queue.proofs.Calls.{nothing_twice_in}
use Rattle.pfl_queue.proofs.queues.Pending.known.Goals as goal

pub returns-clause-nothing_twice : goal.returns-clause-nothing_twice
returns-clause-nothing_twice g c = nothing_twice_in c.args.self.now (subst IsQueue c.self.view_is c.self.invariant.queue)
