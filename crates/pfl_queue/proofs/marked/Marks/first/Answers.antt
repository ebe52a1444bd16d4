use Rattle.std.proofs.Common.{subst}
use Rattle.pfl_queue.specs.inner.Marked.{AreInTurn}
use Rattle.pfl_queue.proofs.Marking.{marked-turn}
use Rattle.pfl_queue.proofs.marked.Marks.first.Goals as goal

pub returns-clause-turn : goal.returns-clause-turn
returns-clause-turn g c = subst AreInTurn c.self.view_is (marked-turn c.self.inside.queues c.self.inside.names c.self.inside.order c.self.invariant)
