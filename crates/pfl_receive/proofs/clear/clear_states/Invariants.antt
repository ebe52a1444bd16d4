use Rattle.pfl_edits.specs.Maps as maps
use Rattle.pfl_receive.proofs.Cleared.{IsCleared}
use Rattle.pfl_receive.proofs.clear.clear_states.Given as goal

abbrev pub invariant-loop-name : goal.invariant-loop-name
invariant-loop-name g l = IsCleared l.fn.desk l.desk l.creator l.bound

abbrev pub decreases-loop-name : goal.decreases-loop-name
decreases-loop-name g l = maps.len l.desk.node.states
