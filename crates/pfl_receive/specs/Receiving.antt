-- What a record from the peer comes to at a node, and what that does (if_pfsync.c; when a record is bad and, each without its word of
-- `kernel`, the bound of a clear, the rule that an update brings and the last use that is kept are this project's profile).
use Rattle.std.specs.Prelude.{ℕ, ◌-◌, ◌^◌, Bool, true, false, not, ◌&&◌, ◌||◌, ◌==◌, nat_lt, nat_le, List, length, filter, Option, Some, None, is_some, if◌then◌else◌}
use Rattle.std.specs.List.{fold}
use Rattle.std.specs.Option.{option_map, option_map_or, option_or}
use Rattle.pfl_base.specs.declared.state_name.StateName.{StateName}
use Rattle.pfl_base.specs.declared.class.Class.{Class}
use Rattle.pfl_base.specs.Names.{is_name}
use Rattle.pfl_edits.specs.Maps as maps
use Rattle.pfl_desk.specs.rules.Rules.{timeout}
use Rattle.pfl_track.specs.declared.state.State.{State}
use Rattle.pfl_desk.specs.table.Tables.{by_stack, by_wire}
use Rattle.pfl_wire.specs.declared.message.BulkStatus.{BulkStatus}
use Rattle.pfl_wire.specs.declared.message.BulkStatus.TheVariants.{Start, End as Finish}
use Rattle.pfl_wire.specs.declared.message.StateRecord.{StateRecord}
use Rattle.pfl_wire.specs.declared.message.UpdateRecord.{UpdateRecord}
use Rattle.pfl_wire.specs.declared.message.Message.{Message}
use Rattle.pfl_wire.specs.declared.message.Message.TheVariants as message
use Rattle.pfl_desk.specs.queue.declared.Kind.{Kind}
use Rattle.pfl_desk.specs.queue.declared.Kind.TheVariants.{InsertAck, Update, UpdateShort}
use Rattle.pfl_desk.specs.queue.Queues.{kind_of}
use Rattle.pfl_merge.specs.declared.received.Received.{Received}
use Rattle.pfl_merge.specs.declared.merged.Merged.{Merged}
use Rattle.pfl_merge.specs.Merging.{merged, imported_use}
use Rattle.pfl_desk.specs.bulk.Bulk.{no_name, is_waiting, server_started, after_status}
use Rattle.pfl_desk.specs.Nodes.{Node, timeout_at}
use Rattle.pfl_desk.specs.Changes.{put_state, mark, push_if, ask, announce_status, count_bad, count_stale, lost, released, changed, is_delete, keeps_deletion, forgotten}
use Rattle.pfl_receive.specs.declared.decision.BadRecord.{BadRecord}
use Rattle.pfl_receive.specs.declared.decision.BadRecord.TheVariants as bad
use Rattle.pfl_receive.specs.declared.decision.Decision.{Decision}
use Rattle.pfl_receive.specs.declared.decision.Decision.TheVariants as decision

-- the node has the state
abbrev pub is_known : Node → StateName → Bool
is_known n name = is_some (maps.get n.states name)

-- ---- taking a state over

-- a name that the node itself would have given, and did not
abbrev pub is_not_given : Node → StateName → Bool
is_not_given n name = (name.creator == n.creator) && nat_le n.next_id name.id

-- the state with a key of the record's, or else the limit
abbrev pub key_fault : Node → StateRecord → Option BadRecord
key_fault n r =
    option_or (option_map (λ (s : State). bad.WireInUse s.name) (by_wire n.states r.keys.wire))
    (option_or (option_map (λ (s : State). bad.StackInUse s.name) (by_stack n.states r.keys.stack))
    (if nat_le n.limits.states (maps.len n.states) then Some bad.Full else None))

-- the node deleted the state, and the peer does not know that yet: it is not taken over again, except with `revive` (if_pfsync.c, as far
-- as we know it)
abbrev pub is_deleting : Node → StateName → Bool
is_deleting n name = not n.limits.kernel.revive && is_delete (kind_of n.queue name)

-- why a state may not be taken over, if there is a reason: the first one
abbrev pub import_fault : Node → StateRecord → Option BadRecord
import_fault n r =
    if is_known n r.name then Some bad.Known else
    if is_not_given n r.name then Some bad.NotGiven else
    if is_deleting n r.name then Some bad.Deleting else key_fault n r

-- a rule number means a rule only under the same rules
abbrev pub kept_rule : Node → Bool → Option ℕ → Option ℕ
kept_rule n same_rules rule = if same_rules && option_map_or (λ r. nat_lt r (length n.rules.list)) rule false then rule else None

-- the timeout by which it is taken over: with `expiry` as the rules say it (if_pfsync.c, as far as we know it), and else as it is scaled
abbrev pub import_timeout : Node → Option ℕ → Class → ℕ
import_timeout n rule class = if n.limits.kernel.expiry then timeout n.rules rule class else timeout_at n rule class

-- the state of a record, as the node keeps it
abbrev pub imported : Node → Bool → StateRecord → State
imported n same_rules r =
    let rule = kept_rule n same_rules r.rule in
    record {
      name = r.name;
      wire = r.keys.wire;
      stack = r.keys.stack;
      direction = r.direction;
      src = r.src;
      dst = r.dst;
      class = r.class;
      last = imported_use n.limits.kernel r.remaining (import_timeout n rule r.class) n.clock;
      rule = rule;
      no_sync = false;
      ack_wanted = false;
      updates = 0;
      peer_change = Some n.clock;
    }

-- a state of the peer's, which may ask for an acknowledgement: it is taken over, or the record is bad
abbrev pub importing : Node → Bool → StateRecord → Bool → Decision
importing n same_rules r ack_wanted = option_map_or decision.Bad (import_fault n r) (decision.Import (imported n same_rules r) ack_wanted)

-- ---- what else a record comes to

-- what is received of a state of the node is merged
abbrev pub merging : Node → Received → State → Decision
merging n r s = decision.Merge (merged n.limits.kernel s r (timeout_at n s.rule r.class) n.clock)

-- what a whole record says of a known state
abbrev pub of_state : StateRecord → Received
of_state r = record { src = r.src; dst = r.dst; class = r.class; remaining = r.remaining }

-- what a short record says of it
abbrev pub of_update : UpdateRecord → Received
of_update u = record { src = u.src; dst = u.dst; class = u.class; remaining = u.remaining }

-- the peer has the state, which waits no longer if it did
abbrev pub acknowledging : State → Decision
acknowledging s = if s.ack_wanted then decision.Release s.name else decision.Nothing

-- it has states to send
abbrev pub has_states : Node → Bool
has_states n = nat_lt 0 (maps.len n.states)

-- on no queue, or on one that sends less than the whole state
abbrev pub is_partly_announced : Option Kind → Bool
is_partly_announced None = true
is_partly_announced (Some UpdateShort) = true
is_partly_announced (Some InsertAck) = true
is_partly_announced (Some _) = false

-- a state is asked for: it is queued, unless it is to be sent whole already, or never
abbrev pub answering : Node → State → Decision
answering n s = if not s.no_sync && is_partly_announced (kind_of n.queue s.name) then decision.Queue s.name else decision.Nothing

-- a request: for all, for a state, or a bad one
abbrev pub requesting : Node → StateName → Decision
requesting n name =
    if is_name no_name name then decision.Serve (has_states n) else option_map_or (answering n) (maps.get n.states name) (decision.Bad bad.Unknown)

-- a deletion of the peer's
abbrev pub deleting : Node → StateName → Decision
deleting n name = if is_known n name then decision.Delete name else decision.Bad bad.Unknown

-- a bulk status is heard by a client that waits
abbrev pub hearing : Node → BulkStatus → Decision
hearing n status = if is_waiting n.client then decision.Hear status else decision.Nothing

-- what an update brings and the node does not have: with `rule` it has no rule here, also where the peer's rules are the node's own
-- (if_pfsync.c, as far as we know it)
abbrev pub updating : Node → Bool → StateRecord → Decision
updating n same_rules r = importing n (same_rules && not n.limits.kernel.rule) r false

-- the bound of a clear: with `clear` all ids, which have 64 bits (if_pfsync.c, as far as we know it)
abbrev pub clear_bound : Node → ℕ → ℕ
clear_bound n bound = if n.limits.kernel.clear then 2 ^ 64 - 1 else bound

-- what a record of the peer's comes to at the node; same_rules says that the peer's rules are the node's own
unfoldable pub decided : Node → Bool → Message → Decision
decided n same_rules (message.Clear creator bound) = decision.Clear creator (clear_bound n bound)
decided n same_rules (message.Insert r) = importing n same_rules r r.ack_wanted
decided n same_rules (message.InsertAck name) = option_map_or acknowledging (maps.get n.states name) decision.Nothing
decided n same_rules (message.Update r) = option_map_or (merging n (of_state r)) (maps.get n.states r.name) (updating n same_rules r)
decided n same_rules (message.UpdateShort u) = option_map_or (merging n (of_update u)) (maps.get n.states u.name) (decision.Ask u.name)
decided n same_rules (message.UpdateRequest name) = requesting n name
decided n same_rules (message.Delete r) = deleting n r.name
decided n same_rules (message.DeleteShort name) = deleting n name
decided n same_rules (message.Bulk creator status) = hearing n status

-- ---- what that does

-- the name is on the queue of acknowledgements, but a pending deletion stays
abbrev pub acknowledged : Node → StateName → Node
acknowledged n name = if keeps_deletion n name then n else mark n name InsertAck

-- a state is taken over, and acknowledged if that is wanted
abbrev pub taken_over : Node → State → Bool → Node
taken_over n s ack_wanted = if ack_wanted then push_if true (acknowledged (put_state n s) s.name) else put_state n s

-- where an end was stale, the state is sent back, unless its deletion is pending; also with `merge`, by which a stale destination may
-- have been taken
abbrev pub merged_into : Node → Merged → Node
merged_into n m =
    if m.stale_src || m.stale_dst
    then push_if true (changed (count_stale n) (record m.state { ack_wanted = false }))
    else put_state n (record m.state { ack_wanted = false })

-- all states are asked for: a node without states is done at once
abbrev pub served : Node → Bool → Node
served n begins = record (announce_status n (if begins then Start else Finish)) { server = server_started n.server begins n.clock }

-- the names of a creator's states up to the bound
abbrev pub cleared_names : Node → ℕ → ℕ → List StateName
cleared_names n creator bound = filter (λ name. (name.creator == creator) && nat_le name.id bound) (maps.keys n.states)

-- a clear: each of those states goes unannounced
abbrev pub clear_taken : Node → ℕ → ℕ → Node
clear_taken n creator bound = fold forgotten n (cleared_names n creator bound)

-- a client hears of a bulk update
abbrev pub heard_of : Node → BulkStatus → Node
heard_of n status = record n { client = after_status n.client status n.clock }

-- the node after what was decided. The peer knows of a state that it sends, so that a held packet of it is dropped; a state that it
-- deletes or clears goes unannounced
unfoldable pub does : Node → Decision → Node
does n (decision.Bad why) = count_bad n
does n (decision.Import s ack_wanted) = taken_over n s ack_wanted
does n (decision.Merge m) = merged_into (lost n m.state.name) m
does n (decision.Ask name) = ask n name
does n (decision.Queue name) = push_if true (mark n name Update)
does n (decision.Serve begins) = served n begins
does n (decision.Release name) = released n name
does n (decision.Delete name) = forgotten n name
does n (decision.Clear creator bound) = clear_taken n creator bound
does n (decision.Hear status) = heard_of n status
does n decision.Nothing = n

-- the node after a record of the peer's
unfoldable pub taken : Node → Bool → Message → Node
taken n same_rules m = does n (decided n same_rules m)
