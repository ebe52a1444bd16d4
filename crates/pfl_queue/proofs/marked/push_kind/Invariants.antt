use Rattle.std.proofs.Common.{◌-◌, length}
use Rattle.pfl_queue.proofs.Turned.{Walked}
use Rattle.pfl_queue.proofs.marked.push_kind.Given as goal

abbrev pub invariant-loop-next : goal.invariant-loop-next
invariant-loop-next g l = Walked l.queues l.kind l.most l.fn.marks.items l.marks.items l.next

abbrev pub decreases-loop-next : goal.decreases-loop-next
decreases-loop-next g l = l.most - length l.marks.items
