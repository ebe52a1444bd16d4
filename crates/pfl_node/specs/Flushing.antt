-- The frame that a node sends (if_pfsync.c).
use Rattle.std.specs.Prelude.{ℕ, ◌*◌, ◌+◌, ◌-◌, ◌/◌, ◌==◌, false, List, [], ◌∷◌, Option, Some, None, if◌then◌else◌, length}
use Rattle.std.specs.List.{fold, flat_map}
use Rattle.std.specs.Option.{option_map_or}
use Rattle.pfl_base.specs.Lists.{neighbours}
use Rattle.pfl_base.specs.declared.refusal.Refusal.{Refusal}
use Rattle.pfl_base.specs.declared.refusal.Refusal.TheVariants.{NothingPending}
use Rattle.pfl_base.specs.declared.state_name.StateName.{StateName}
use Rattle.pfl_edits.specs.Maps as maps
use Rattle.pfl_track.specs.declared.state.State.{State}
use Rattle.pfl_wire.specs.declared.message.StateRecord.{StateRecord}
use Rattle.pfl_wire.specs.declared.message.UpdateRecord.{UpdateRecord}
use Rattle.pfl_wire.specs.declared.message.Message.{Message}
use Rattle.pfl_wire.specs.declared.message.Message.TheVariants as message
use Rattle.pfl_wire.specs.Frames.{Frame, action_of}
use Rattle.pfl_receive.specs.queue.declared.Entry.{Entry}
use Rattle.pfl_receive.specs.queue.declared.Entry.TheVariants.{Marked, Request, Status, Clear}
use Rattle.pfl_receive.specs.queue.declared.Kind.{Kind}
use Rattle.pfl_receive.specs.queue.declared.Kind.TheVariants.{Insert, InsertAck, Update, UpdateShort, Delete}
use Rattle.pfl_receive.specs.queue.Queues.{pending}
use Rattle.pfl_receive.specs.queue.Taking.{next_frame, left_by, one_action}
use Rattle.pfl_receive.specs.desk.Nodes.{Node, expiry_at}
use Rattle.pfl_receive.specs.desk.Changes.{put_state}
use Rattle.pfl_node.specs.Weights.{sent_edits}

-- the seconds that a state has left, truncated
abbrev pub remaining : Node → State → ℕ
remaining n s = (expiry_at n s - n.clock) / 1000

-- the whole state, as it is sent
abbrev pub state_record : Node → State → StateRecord
state_record n s = record {
  name = s.name;
  keys = record { wire = s.wire; stack = s.stack };
  direction = s.direction;
  ack_wanted = s.ack_wanted;
  src = s.src;
  dst = s.dst;
  class = s.class;
  remaining = remaining n s;
  rule = s.rule;
}

-- what changes of a state, as it is sent
abbrev pub update_record : Node → State → UpdateRecord
update_record n s = record { name = s.name; src = s.src; dst = s.dst; class = s.class; remaining = remaining n s }

-- what is made of the state of the name: one message, and none without a state
abbrev pub of_named : Node → StateName → (State → Message) → List Message
of_named n name make = option_map_or (λ s. make s ∷ []) (maps.get n.states name) []

-- what is sent of a name on a queue
abbrev pub mark_messages : Node → Kind → StateName → List Message
mark_messages n Insert name = of_named n name (λ s. message.Insert (state_record n s))
mark_messages n InsertAck name = message.InsertAck name ∷ []
mark_messages n Update name = of_named n name (λ s. message.Update (state_record n s))
mark_messages n UpdateShort name = of_named n name (λ s. message.UpdateShort (update_record n s))
mark_messages n Delete name = message.DeleteShort name ∷ []

-- the message of an entry
abbrev pub messages_of : Node → Entry → List Message
messages_of n (Marked kind number name) = mark_messages n kind name
messages_of n (Request name) = message.UpdateRequest name ∷ []
messages_of n (Status status) = message.Bulk n.creator status ∷ []
messages_of n (Clear creator bound) = message.Clear creator bound ∷ []

-- the frame of the longest prefix that fits
unfoldable pub frame_of : Node → Frame
frame_of n = record {
  print = n.rules.print;
  groups = neighbours (λ a b. one_action (action_of a) (action_of b)) (flat_map (messages_of n) (next_frame n.queue n.limits.mtu));
}

-- the state of a mark that was sent has no updates left to announce
abbrev pub update_count_cleared : Node → Entry → Node
update_count_cleared n (Marked kind number name) = option_map_or (λ s. put_state n (record s { updates = 0 })) (maps.get n.states name) n
update_count_cleared n _ = n

-- the node after it sent its frame
unfoldable pub flushed : Node → Node
flushed n =
    let entries = next_frame n.queue n.limits.mtu in
    fold update_count_cleared (record n { queue = left_by n.queue entries; push = false }) entries

-- a node that has nothing pending sends no frame
abbrev pub send_refusal : Node → Option Refusal
send_refusal n = if pending n.queue == 0 then Some NothingPending else None

-- sending a frame takes at most this many edits
abbrev pub flush_edits : Node → ℕ
flush_edits n = 1 + sent_edits * length (next_frame n.queue n.limits.mtu)
