-- What an event means at a node by itself, in one record of one file an event (this project's profile).
use Rattle.std.specs.Prelude.{ℕ, List, Option}
use Rattle.pfl_base.specs.declared.refusal.Refusal.{Refusal}
use Rattle.pfl_language.specs.declared.node_event.NodeOutcome.{NodeOutcome}
use Rattle.pfl_receive.specs.desk.Nodes.{Node}

-- why the event is refused, if there is a reason: the first one; and where there is none, the node after it, its outcome, the points
-- that the node goes through, and the number of states or packets that it is about
pub record NodeMeaning : Type 0 where
  pub refusal : Option Refusal
  pub after : Node
  pub outcome : NodeOutcome
  pub points : List Node
  pub work : ℕ
