-- What a packet does at a node (pf.c).
use Rattle.std.specs.Prelude.{false, List, [], ◌∷◌, Option, Some, None}
use Rattle.pfl_base.specs.declared.direction.Dir.{Dir}
use Rattle.pfl_base.specs.declared.packet.Packet.{Packet}
use Rattle.pfl_base.specs.Keys.{key}
use Rattle.pfl_track.specs.declared.state.State.{State}
use Rattle.pfl_track.specs.declared.tracked.Tracked.{Tracked}
use Rattle.pfl_track.specs.declared.tracked.Tracked.TheVariants.{Moved, OutOfWindow, Reused}
use Rattle.pfl_track.specs.Rules.{tracked_by}
use Rattle.pfl_receive.specs.table.Tables.{found}
use Rattle.pfl_language.specs.declared.node_event.NodeOutcome.TheVariants as outcome
use Rattle.pfl_language.specs.declared.fate.Reason.TheVariants as reason
use Rattle.pfl_receive.specs.desk.Nodes.{Node, points_refusal}
use Rattle.pfl_receive.specs.desk.Changes.{freed, changed, deleted}
use Rattle.pfl_node.specs.Starting.{Handled, pass, drop, judged}
use Rattle.pfl_node.specs.Meanings.{NodeMeaning}

-- a packet that was accepted on the state: it lets a held one go, and changes the state
abbrev pub accepted : Node → State → Handled
accepted n s = pass (changed (freed n s.name) (record s { ack_wanted = false })) (Some s.name)

-- what a packet of the state s does to it at the node
abbrev pub tracked_at : Node → State → Packet → Dir → Tracked
tracked_at n s p dir = tracked_by n.limits.kernel s p dir n.clock

-- a packet of the state s, as tracking has it; a new connection over a closed one is a packet that no state takes
abbrev pub followed : Node → Dir → Packet → State → Tracked → Handled
followed n dir p s (Moved t) = accepted n t
followed n dir p s OutOfWindow = drop n reason.Window
followed n dir p s Reused = judged (deleted n s) dir p

-- a packet, by the state that was found
abbrev pub handled_by : Node → Dir → Packet → Option State → Handled
handled_by n dir p None = judged n dir p
handled_by n dir p (Some s) = followed n dir p s (tracked_at n s p dir)

-- the packet at the node; a packet of a state is not tested against rules (pf.conf(5))
unfoldable pub handled : Node → Dir → Packet → Handled
handled n dir p = handled_by n dir p (found n.states (key p dir) dir)

-- the node after the closed connection is deleted, where it is
abbrev pub on_the_way : Node → State → Tracked → List Node
on_the_way n s Reused = deleted n s ∷ []
on_the_way n s _ = []

-- the point that a packet goes through before its rules are asked
abbrev pub before_rules : Node → Dir → Packet → Option State → List Node
before_rules n dir p None = []
before_rules n dir p (Some s) = on_the_way n s (tracked_at n s p dir)

-- the points that the packet goes through
unfoldable pub packet_points : Node → Dir → Packet → List Node
packet_points n dir p = (handled n dir p).node ∷ before_rules n dir p (found n.states (key p dir) dir)

-- what a packet means
abbrev pub packet_meaning : Node → Dir → Packet → NodeMeaning
packet_meaning n dir p = record {
  refusal = points_refusal (packet_points n dir p);
  after = (handled n dir p).node;
  outcome = outcome.Handled (handled n dir p).fate;
  points = packet_points n dir p;
  work = 1;
}
