-- The two nodes.
use Rattle.pfl_base.specs.declared.node_id.NodeId.{NodeId}
use Rattle.pfl_base.specs.declared.node_id.NodeId.TheVariants.{A, B}

-- the other node of the pair
abbrev pub other_node : NodeId → NodeId
other_node A = B
other_node B = A
