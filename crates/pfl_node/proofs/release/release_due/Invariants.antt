use Rattle.pfl_node.proofs.Released.{IsReleased}
use Rattle.std.proofs.Common.{length}
use Rattle.pfl_node.specs.Releasing.{due_names}
use Rattle.pfl_node.proofs.release.release_due.Given as goal

abbrev pub invariant-loop-name : goal.invariant-loop-name
invariant-loop-name g l = IsReleased l.fn.desk l.desk l.count

abbrev pub decreases-loop-name : goal.decreases-loop-name
decreases-loop-name g l = length (due_names l.desk.node)
