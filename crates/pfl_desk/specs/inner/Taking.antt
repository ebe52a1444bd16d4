-- The entries of the next frame, taken out.
use Rattle.std.specs.Prelude.{List, map}
use Rattle.pfl_queue.specs.declared.edits.QueueEdit.{QueueEdit}
use Rattle.pfl_queue.specs.Taking.{next_frame, left_by}
use Rattle.pfl_desk.specs.declared.edit.NodeEdit.{NodeEdit}
use Rattle.pfl_desk.specs.declared.edit.NodeEdit.TheVariants.{OfQueue}
use Rattle.pfl_desk.specs.Nodes.{Node}

-- the node without the entries of its next frame
abbrev pub taken_from : Node → Node
taken_from n = record n { queue = left_by n.queue (next_frame n.queue n.limits.mtu) }

-- the edits of what is pending, as edits of the node
abbrev pub of_queue : List QueueEdit → List NodeEdit
of_queue edits = map OfQueue edits
