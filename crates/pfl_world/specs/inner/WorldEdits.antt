-- The edits of a node and of the link as those of the pair, and the pair before them.
use Rattle.std.specs.Prelude.{List, map}
use Rattle.pfl_base.specs.declared.node_id.NodeId.{NodeId}
use Rattle.pfl_edits.specs.Changes.{back}
use Rattle.pfl_node.specs.desk.declared.edit.NodeEdit.{NodeEdit}
use Rattle.pfl_node.specs.desk.Edits as nodes
use Rattle.pfl_link.specs.LinkEdits as links
use Rattle.pfl_link.specs.LinkEdits.{LinkEdit}
use Rattle.pfl_world.specs.declared.edit.WorldEdit.{WorldEdit}
use Rattle.pfl_world.specs.declared.edit.WorldEdit.TheVariants.{OfNode}
use Rattle.pfl_world.specs.Worlds.{World, node_at, with_node, with_link}

-- the edits of a node, as those of the pair
abbrev pub of_node : {M : Type 0} → NodeId → List NodeEdit → List (WorldEdit M)
of_node id es = map (OfNode id) es

-- the pair before these edits of a node
abbrev pub before_node : World → NodeId → List NodeEdit → World
before_node w id es = with_node w id (back nodes.put_back es (node_at w id))

-- the pair before this edit of the link
abbrev pub before_link : World → LinkEdit → World
before_link w e = with_link w (links.put_back e w.link)
