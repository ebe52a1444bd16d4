-- The edits of the pair: each names one place, its former value and its new one. A node that begins anew and the next boot count
-- as one place. M is the allocator of the frames, of which nothing is said (this project's profile).
use Rattle.std.specs.Prelude.{◌≡◌, ℕ, ◌+◌, List}
use Rattle.pfl_base.specs.declared.node_id.NodeId.{NodeId}
use Rattle.pfl_edits.specs.Changes.{LeadsBack}
use Rattle.pfl_node.specs.desk.Edits as nodes
use Rattle.pfl_node.specs.desk.Nodes.{Node}
use Rattle.pfl_node.specs.Events.{restarted}
use Rattle.pfl_link.specs.LinkEdits as links
use Rattle.pfl_link.specs.Undone as links_undone
use Rattle.pfl_world.specs.declared.edit.WorldEdit.{WorldEdit}
use Rattle.pfl_world.specs.declared.edit.WorldEdit.TheVariants.{OfNode, OfLink, OfRestart}
use Rattle.pfl_world.specs.declared.undone.WorldUndone.{WorldUndone}
use Rattle.pfl_world.specs.declared.undone.WorldUndone.TheVariants as kept
use Rattle.pfl_world.specs.Restarts as restarts
use Rattle.pfl_world.specs.Worlds.{World, IsWorld, node_at, with_node, with_link}

-- the node of the name is this one, and the next boot has this number
pub record Boots (id : NodeId) (n : Node) (boot : ℕ) (w : World) : Type 0 where
  pub node : node_at w id ≡ n
  pub next : w.next_boot ≡ boot

-- the world with this node, and this number of the next boot
abbrev pub with_boot : World → NodeId → Node → ℕ → World
with_boot w id n boot = record (with_node w id n) { next_boot = boot }

-- the edit's new value is in its place
abbrev pub Finds : {M : Type 0} → WorldEdit M → World → Type 0
Finds (OfNode id e) w = nodes.Finds e (node_at w id)
Finds (OfLink e) w = links.Finds e w.link
Finds (OfRestart e) w = Boots e.node (restarted e.former e.boot) (e.boot + 1) w

-- its former value is
abbrev pub FindsFormer : {M : Type 0} → WorldEdit M → World → Type 0
FindsFormer (OfNode id e) w = nodes.FindsFormer e (node_at w id)
FindsFormer (OfLink e) w = links.FindsFormer e w.link
FindsFormer (OfRestart e) w = Boots e.node e.former e.boot w

-- the world with the former value in the place
abbrev pub put_back : {M : Type 0} → WorldEdit M → World → World
put_back (OfNode id e) w = with_node w id (nodes.put_back e (node_at w id))
put_back (OfLink e) w = with_link w (links.put_back e w.link)
put_back (OfRestart e) w = with_boot w e.node e.former e.boot

-- the world with the new value in the place
abbrev pub redone : {M : Type 0} → WorldEdit M → World → World
redone (OfNode id e) w = with_node w id (nodes.redone e (node_at w id))
redone (OfLink e) w = with_link w (links.redone e w.link)
redone (OfRestart e) w = with_boot w e.node (restarted e.former e.boot) (e.boot + 1)

-- what is kept of an edit that is taken back for a while
abbrev pub undone : {M : Type 0} → WorldEdit M → WorldUndone M
undone (OfNode id e) = kept.OfNode id e
undone (OfLink e) = kept.OfLink (links_undone.undone e)
undone (OfRestart e) = kept.OfRestart (restarts.undone e)

-- the edits, the oldest first, lead from one world to another and back
abbrev pub WorldLeadsBack : {M : Type 0} → List (WorldEdit M) → World → World → Type 0
WorldLeadsBack es = LeadsBack Finds IsWorld put_back es
