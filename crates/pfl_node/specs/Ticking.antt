-- The clock goes on (that it ends is this project's profile).
use Rattle.std.specs.Prelude.{ℕ, ◌+◌, nat_lt, Option, Some, None, if◌then◌else◌, [], ◌∷◌}
use Rattle.pfl_base.specs.declared.refusal.Refusal.{Refusal}
use Rattle.pfl_base.specs.declared.refusal.Refusal.TheVariants.{ClockFull}
use Rattle.pfl_language.specs.declared.node_event.NodeOutcome.TheVariants.{Clock}
use Rattle.pfl_receive.specs.desk.Nodes.{Node, last_millisecond}
use Rattle.pfl_node.specs.Meanings.{NodeMeaning}

-- the clock goes on
abbrev pub ticked : Node → ℕ → Node
ticked n ms = record n { clock = n.clock + ms }

-- why a tick is refused: the clock would pass its last millisecond
abbrev pub tick_refusal : Node → ℕ → Option Refusal
tick_refusal n ms = if nat_lt last_millisecond (n.clock + ms) then Some ClockFull else None

-- what a tick means
abbrev pub tick_meaning : Node → ℕ → NodeMeaning
tick_meaning n ms = record {
  refusal = tick_refusal n ms;
  after = ticked n ms;
  outcome = Clock (ticked n ms).clock;
  points = ticked n ms ∷ [];
  work = 0;
}
