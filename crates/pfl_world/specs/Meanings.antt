-- What an event means to the pair, in one record of one file an event (this project's profile).
use Rattle.std.specs.Prelude.{ℕ, List, Result}
use Rattle.pfl_base.specs.declared.node_id.NodeId.{NodeId}
use Rattle.pfl_base.specs.declared.refusal.Refusal.{Refusal}
use Rattle.pfl_language.specs.declared.outcome.Outcome.{Outcome}
use Rattle.pfl_node.specs.desk.Nodes.{Node}
use Rattle.pfl_world.specs.Worlds.{World}

-- what an event gives: the world after it, and its outcome
pub record Stepped : Type 0 where
  pub world : World
  pub outcome : Outcome

-- what the event gives, or the first refusal that applies; the points that each node goes through; and the number of states,
-- records or packets that it is about
pub record Meaning : Type 0 where
  pub gives : Result Stepped Refusal
  pub points : NodeId → List Node
  pub work : ℕ
