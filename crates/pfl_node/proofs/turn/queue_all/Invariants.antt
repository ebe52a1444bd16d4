use Rattle.pfl_node.proofs.Turned.{IsQueued}
use Rattle.pfl_node.proofs.turn.queue_all.Given as goal

abbrev pub invariant-loop-name : goal.invariant-loop-name
invariant-loop-name g l = IsQueued l.fn.desk l.desk l.names l.name-index
