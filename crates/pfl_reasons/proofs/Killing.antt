-- A state that is killed at a node leaves it as its deletion does.
use Rattle.std.specs.Prelude.{◌≡◌, Option, Some, None, Ok, refl}
use Rattle.std.specs.Option.{option_map_or}
use Rattle.std.proofs.Common.{◌∙◌, ap, sym}
use Rattle.pfl_base.specs.declared.node_id.NodeId.{NodeId}
use Rattle.pfl_base.specs.declared.node_id.NodeId.TheVariants.{A, B}
use Rattle.pfl_base.specs.declared.refusal.Refusal.{Refusal}
use Rattle.pfl_base.specs.declared.state_name.StateName.{StateName}
use Rattle.pfl_edits.specs.Maps as maps
use Rattle.pfl_track.specs.declared.state.State.{State}
use Rattle.pfl_language.specs.declared.event.Event.TheVariants as event
use Rattle.pfl_language.specs.declared.node_event.NodeEvent.TheVariants as own
use Rattle.pfl_world.specs.desk.Changes.{deleted}
use Rattle.pfl_world.specs.desk.Nodes.{Node, unless_refused}
use Rattle.pfl_world.specs.node.Killing.{kill_refusal, killed}
use Rattle.pfl_world.specs.node.Stepping.{node_after}
use Rattle.pfl_world.specs.AtNodes.{from_node, stepped_at}
use Rattle.pfl_world.specs.Events.{step}
use Rattle.pfl_world.specs.Meanings.{Stepped}
use Rattle.pfl_world.specs.Worlds.{World, node_at, with_node}

pub own-node : (w : World) (id : NodeId) (n : Node) → node_at (with_node w id n) id ≡ n
own-node w A n = refl
own-node w B n = refl

accepted-world : (w : World) (id : NodeId) (name : StateName) (r : Option Refusal) (s : Stepped)
    → from_node w id (unless_refused r (node_after (node_at w id) (own.Kill name))) ≡ Ok s
    → s.world ≡ with_node w id (killed (node_at w id) name)
accepted-world w id name None s is = let same : stepped_at w id (node_after (node_at w id) (own.Kill name)) ≡ s = cc in sym (ap (λ (t : Stepped). t.world) same)
accepted-world w id name (Some r) s is = absurd (cc)

-- the name is that of a state of the node
pub killed-node : (w : World) (id : NodeId) (name : StateName) (closed : State) (s : Stepped)
    → maps.get (node_at w id).states closed.name ≡ Some closed → name ≡ closed.name
    → step w (event.At id (own.Kill name)) ≡ Ok s → node_at s.world id ≡ deleted (node_at w id) closed
unfolding step
killed-node w id name closed s at named is =
    ap (λ v. node_at v id) (accepted-world w id name (kill_refusal (node_at w id) name) s is)
    ∙ (own-node w id (killed (node_at w id) name)
    ∙ ap (λ o. option_map_or (deleted (node_at w id)) o (node_at w id)) (ap (maps.get (node_at w id).states) named ∙ at))
