-- Small edits and those of middle size, and the edits of the pair that they are.
use Rattle.pfl_base.specs.declared.node_id.NodeId.{NodeId}
use Rattle.pfl_node.specs.desk.declared.edit.NodeEdit.{NodeEdit}
use Rattle.pfl_node.specs.desk.declared.edit.NodeEdit.TheVariants as nodes
use Rattle.pfl_world.specs.declared.edit.WorldEdit.{WorldEdit}
use Rattle.pfl_world.specs.declared.edit.WorldEdit.TheVariants.{OfNode}
use Rattle.pfl_world.specs.declared.small_edit.SmallEdit.{SmallEdit}
use Rattle.pfl_world.specs.declared.small_edit.SmallEdit.TheVariants as small
use Rattle.pfl_world.specs.declared.small_edit.MiddleEdit.{MiddleEdit}
use Rattle.pfl_world.specs.declared.small_edit.MiddleEdit.TheVariants as middle

-- the node that a small edit is of
abbrev pub node_of : SmallEdit → NodeId
node_of (small.Clock node before after) = node
node_of (small.NextId node before after) = node
node_of (small.Push node before after) = node
node_of (small.Count node counter before after) = node

-- the edit of that node
abbrev pub edit_of : SmallEdit → NodeEdit
edit_of (small.Clock node before after) = nodes.Clock before after
edit_of (small.NextId node before after) = nodes.NextId before after
edit_of (small.Push node before after) = nodes.Push before after
edit_of (small.Count node counter before after) = nodes.Count counter before after

-- the edit of the pair that it is
abbrev pub whole_edit : {M : Type 0} → SmallEdit → WorldEdit M
whole_edit s = OfNode (node_of s) (edit_of s)

-- the node that an edit of middle size is of
abbrev pub node_of_middle : MiddleEdit → NodeId
node_of_middle (middle.Moved node edit) = node
node_of_middle (middle.OfQueue node edit) = node
node_of_middle (middle.Client node before after) = node

-- the edit of that node
abbrev pub edit_of_middle : MiddleEdit → NodeEdit
edit_of_middle (middle.Moved node edit) = nodes.Moved edit
edit_of_middle (middle.OfQueue node edit) = nodes.OfQueue edit
edit_of_middle (middle.Client node before after) = nodes.Client before after

-- the edit of the pair that it is
abbrev pub whole_middle : {M : Type 0} → MiddleEdit → WorldEdit M
whole_middle m = OfNode (node_of_middle m) (edit_of_middle m)

-- the edit of a node is none of those that take few bytes
abbrev pub IsLarger : NodeEdit → Type 0
IsLarger (nodes.Clock before after) = ⊥
IsLarger (nodes.NextId before after) = ⊥
IsLarger (nodes.Push before after) = ⊥
IsLarger (nodes.Count counter before after) = ⊥
IsLarger _ = Unit {0}

-- it is neither what packets moved, nor a change of the queues, nor one of where a bulk update stands
abbrev pub IsNotMiddle : NodeEdit → Type 0
IsNotMiddle (nodes.Moved e) = ⊥
IsNotMiddle (nodes.OfQueue e) = ⊥
IsNotMiddle (nodes.Client before after) = ⊥
IsNotMiddle _ = Unit {0}
