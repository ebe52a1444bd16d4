use Rattle.pfl_desk.proofs.NewNodes.{new_node-is}
use Rattle.pfl_desk.proofs.laws.new_nodes_are_nodes.Goals as goal

pub returns : goal.returns
returns c = new_node-is
