-- A turn of a bulk update: the server queues its next states (if_pfsync.c; turns are this project's profile).
use Rattle.std.specs.Prelude.{ℕ, ◌+◌, Bool, true, not, ◌&&◌, nat_le, List, [], ◌∷◌, map, filter, Option, is_none, if◌then◌else◌, length}
use Rattle.std.specs.List.{fold}
use Rattle.std.specs.Option.{option_map_or}
use Rattle.pfl_base.specs.declared.refusal.Refusal.{Refusal}
use Rattle.pfl_base.specs.declared.refusal.Refusal.TheVariants.{NotSyncing}
use Rattle.pfl_base.specs.declared.state_name.StateName.{StateName}
use Rattle.pfl_edits.specs.Maps as maps
use Rattle.pfl_track.specs.declared.state.State.{State}
use Rattle.pfl_wire.specs.declared.message.BulkStatus.TheVariants.{End as Finish}
use Rattle.pfl_receive.specs.queue.declared.Kind.TheVariants.{Update}
use Rattle.pfl_receive.specs.queue.Queues.{kind_of}
use Rattle.pfl_bulk.specs.Bulk.{is_serving, turn_names, is_last_turn, after_turn}
use Rattle.pfl_bulk.specs.declared.BulkServer.{BulkServer}
use Rattle.pfl_bulk.specs.declared.BulkServer.TheVariants as server
use Rattle.pfl_language.specs.declared.node_event.NodeOutcome.TheVariants.{Queued}
use Rattle.pfl_receive.specs.desk.Nodes.{Node, full_tests, refused_by}
use Rattle.pfl_receive.specs.desk.Changes.{mark, announce_status}
use Rattle.pfl_node.specs.Meanings.{NodeMeaning}
use Rattle.pfl_node.specs.Weights.{turned_edits}

-- the state may be sent in a bulk update that runs since then
abbrev pub is_eligible : Node → ℕ → State → Bool
is_eligible n since s = is_none (kind_of n.queue s.name) && not s.no_sync && option_map_or (λ t. nat_le t since) s.peer_change true

-- the names that a bulk update may send, in order
abbrev pub eligible_names : Node → BulkServer → List StateName
eligible_names n server.Idle = []
eligible_names n (server.Serving cursor since) = map (λ s. s.name) (filter (is_eligible n since) (maps.values n.states))

-- the names that a turn queues
unfoldable pub turn_of : Node → List StateName
turn_of n = turn_names n.server (eligible_names n n.server) n.limits.batch

-- the node with these names on the queue of updates, in their order
abbrev pub queued : Node → List StateName → Node
queued n names = fold (λ m name. mark m name Update) n names

-- after the last turn the end is announced
abbrev pub ended : Bool → Node → Node
ended last n = if last then announce_status n Finish else n

-- the node after a turn: its names queued, and the end announced after the last
unfoldable pub turned : Node → Node
turned n =
    let names = eligible_names n n.server in
    record (ended (is_last_turn n.server names n.limits.batch) (queued n (turn_of n))) { server = after_turn n.server names n.limits.batch }

-- a node that serves none queues nothing
abbrev pub turn_refusal : Node → Option Refusal
turn_refusal n = refused_by ((not (is_serving n.server), NotSyncing) ∷ full_tests (turned n ∷ []))

-- a turn takes at most this many edits
abbrev pub turn_edits : Node → ℕ
turn_edits n = length (turn_of n) + turned_edits

-- what a turn means
abbrev pub turn_meaning : Node → NodeMeaning
turn_meaning n = record {
  refusal = turn_refusal n;
  after = turned n;
  outcome = Queued (length (turn_of n));
  points = turned n ∷ [];
  work = length (turn_of n);
}
