use Rattle.pfl_node.proofs.Sent.{IsCleared}
use Rattle.pfl_node.proofs.flush.clear_counts.Given as goal

abbrev pub invariant-loop-entry : goal.invariant-loop-entry
invariant-loop-entry g l = IsCleared l.fn.desk l.desk l.entries l.entry-index
