use Rattle.pfl_edits.specs.Maps as maps
use Rattle.pfl_node.proofs.Cleared.{IsEmptied}
use Rattle.pfl_node.proofs.clear.forget_all.Given as goal

abbrev pub invariant-loop-name : goal.invariant-loop-name
invariant-loop-name g l = IsEmptied l.fn.desk l.desk

abbrev pub decreases-loop-name : goal.decreases-loop-name
decreases-loop-name g l = maps.len l.desk.node.states
