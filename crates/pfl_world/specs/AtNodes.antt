-- What happens at a node by itself, as an event of the pair (this project's profile). What it means there is defined in pfl_node.
use Rattle.std.specs.Prelude.{map, Result, Ok, Err}
use Rattle.pfl_base.specs.declared.node_id.NodeId.{NodeId}
use Rattle.pfl_base.specs.declared.refusal.Refusal.{Refusal}
use Rattle.pfl_language.specs.declared.node_event.NodeEvent.{NodeEvent}
use Rattle.pfl_language.specs.declared.outcome.Outcome.TheVariants.{At}
use Rattle.pfl_node.specs.Stepping.{NodeStepped, node_points, node_step, node_work}
use Rattle.pfl_world.specs.Meanings.{Meaning, Stepped}
use Rattle.pfl_world.specs.Worlds.{World, node_at, with_node}

-- what an event of a node gives the pair: the other node and the link stay
abbrev pub stepped_at : World → NodeId → NodeStepped → Stepped
stepped_at w id s = record { world = with_node w id s.node; outcome = At s.outcome }

-- the node's refusal, or else what it gives the pair
abbrev pub from_node : World → NodeId → Result NodeStepped Refusal → Result Stepped Refusal
from_node w id (Ok s) = Ok (stepped_at w id s)
from_node w id (Err r) = Err r

-- an event of a node by itself
abbrev pub node_event : World → NodeId → NodeEvent → Result Stepped Refusal
node_event w id e = from_node w id (node_step (node_at w id) e)

-- what an event of a node by itself means to the pair
abbrev pub at_node_meaning : World → NodeId → NodeEvent → Meaning
at_node_meaning w id e = record {
  gives = node_event w id e;
  points = λ at. map (λ n. node_at (with_node w id n) at) (node_points (node_at w id) e);
  work = node_work (node_at w id) e;
}
