use Rattle.std.proofs.Common.{◌≡◌, take}
use Rattle.pfl_queue.specs.Taking.{left_by}
use Rattle.pfl_queue.proofs.queues.Pending.take_out.Given as goal

abbrev pub invariant-loop-entry : goal.invariant-loop-entry
invariant-loop-entry g l = record {
  left : l.self ≡ left_by l.fn.self (take l.entry-index l.entries);
}
