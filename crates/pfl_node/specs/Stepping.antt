-- Each event of a node by itself: the node after it with its outcome, or the first refusal that applies (the events are this
-- project's profile). What an event means is defined in a file of its own.
use Rattle.std.specs.Prelude.{ℕ, List, Option, Result}
use Rattle.pfl_base.specs.declared.refusal.Refusal.{Refusal}
use Rattle.pfl_language.specs.declared.node_event.NodeEvent.{NodeEvent}
use Rattle.pfl_language.specs.declared.node_event.NodeEvent.TheVariants as event
use Rattle.pfl_language.specs.declared.node_event.NodeOutcome.{NodeOutcome}
use Rattle.pfl_receive.specs.desk.Nodes.{Node, unless_refused}
use Rattle.pfl_receive.specs.desk.Weights.{deleted_edits}
use Rattle.pfl_node.specs.Meanings.{NodeMeaning}
use Rattle.pfl_node.specs.Clearing.{clear_edits, clear_meaning}
use Rattle.pfl_node.specs.Killing.{kill_meaning}
use Rattle.pfl_node.specs.Packets.{packet_meaning}
use Rattle.pfl_node.specs.Purging.{purge_edits, purge_meaning}
use Rattle.pfl_node.specs.Releasing.{release_edits, release_meaning}
use Rattle.pfl_node.specs.Retrying.{retry_meaning}
use Rattle.pfl_node.specs.Ticking.{tick_meaning}
use Rattle.pfl_node.specs.Turning.{turn_edits, turn_meaning}
use Rattle.pfl_node.specs.Weights.{edits_for, packet_edits, retried_edits, ticked_edits}

-- what an event means
abbrev pub node_meaning : Node → NodeEvent → NodeMeaning
node_meaning n (event.Packet dir p) = packet_meaning n dir p
node_meaning n (event.Tick ms) = tick_meaning n ms
node_meaning n event.Purge = purge_meaning n
node_meaning n event.Release = release_meaning n
node_meaning n (event.Kill name) = kill_meaning n name
node_meaning n event.Clear = clear_meaning n
node_meaning n event.BulkTurn = turn_meaning n
node_meaning n event.BulkRetry = retry_meaning n

-- why the event is refused, if there is a reason: the first one
abbrev pub node_refusal : Node → NodeEvent → Option Refusal
node_refusal n e = (node_meaning n e).refusal

-- what an event gives: the node after it, and its outcome
pub record NodeStepped : Type 0 where
  pub node : Node
  pub outcome : NodeOutcome

-- what an event gives where it is not refused
abbrev pub node_after : Node → NodeEvent → NodeStepped
node_after n e = record { node = (node_meaning n e).after; outcome = (node_meaning n e).outcome }

-- the event at the node
abbrev pub node_step : Node → NodeEvent → Result NodeStepped Refusal
node_step n e = unless_refused (node_refusal n e) (node_after n e)

-- the points that the node goes through
abbrev pub node_points : Node → NodeEvent → List Node
node_points n e = (node_meaning n e).points

-- the number of states or packets that the event is about
abbrev pub node_work : Node → NodeEvent → ℕ
node_work n e = (node_meaning n e).work

-- an event takes at most this many edits
abbrev pub node_weight : Node → NodeEvent → ℕ
node_weight n e = edits_for (node_work n e)

-- and each kind of event at most this many
abbrev pub node_edits : Node → NodeEvent → ℕ
node_edits n (event.Packet dir p) = packet_edits
node_edits n (event.Tick ms) = ticked_edits
node_edits n event.Purge = purge_edits n
node_edits n event.Release = release_edits n
node_edits n (event.Kill name) = deleted_edits
node_edits n event.Clear = clear_edits n
node_edits n event.BulkTurn = turn_edits n
node_edits n event.BulkRetry = retried_edits
