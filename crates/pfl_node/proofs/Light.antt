-- No event takes more edits than the pair allows it.
use Rattle.std.specs.Prelude.{◌≤◌}
use Rattle.std.proofs.Common.{arith}
use Rattle.pfl_language.specs.declared.node_event.NodeEvent.{NodeEvent}
use Rattle.pfl_language.specs.declared.node_event.NodeEvent.TheVariants as event
use Rattle.pfl_receive.specs.desk.Nodes.{Node}
use Rattle.pfl_node.specs.Stepping.{node_edits, node_weight}

pub events-light : (n : Node) (e : NodeEvent) → node_edits n e ≤ node_weight n e
events-light n (event.Packet dir p) = omega arith
events-light n (event.Tick ms) = omega arith
events-light n event.Purge = omega arith
events-light n event.Release = omega arith
events-light n (event.Kill name) = omega arith
events-light n event.Clear = omega arith
events-light n event.BulkTurn = omega arith
events-light n event.BulkRetry = omega arith
