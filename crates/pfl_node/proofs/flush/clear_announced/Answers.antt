use Rattle.std.proofs.Common.{length}
use Rattle.pfl_receive.proofs.ForCallers.desk.{writes-then}
use Rattle.pfl_node.proofs.flush.clear_announced.Goals as goal

pub returns-clause-writes : goal.returns-clause-writes
returns-clause-writes g c = writes-then 1 (length c.args.entries.now) _ _ _ c.set_push.ensures.writes c.clear_counts.ensures.writes
