use Rattle.std.proofs.Common.{◌≡◌, take}
use Rattle.pfl_queue.specs.inner.Marked.{listed}
use Rattle.pfl_queue.proofs.marked.push_kinds.Given as goal

abbrev pub invariant-loop-kind : goal.invariant-loop-kind
invariant-loop-kind g l = l.marks.items ≡ take l.most (listed (take l.kind l.queues.lists))
