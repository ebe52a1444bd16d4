use Rattle.pfl_node.proofs.Purged.{IsPurged, found}
use Rattle.std.proofs.Common.{length}
use Rattle.pfl_node.specs.Purging.{expired_among}
use Rattle.pfl_node.proofs.purge.delete_expired.Given as goal

abbrev pub invariant-loop-state : goal.invariant-loop-state
invariant-loop-state g l = IsPurged l.fn.desk l.desk l.count l.overcounted

abbrev pub decreases-loop-state : goal.decreases-loop-state
decreases-loop-state g l = length (expired_among (found l.fn.desk) l.desk.node)
