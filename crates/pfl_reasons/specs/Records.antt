-- What becomes of the records of a frame, one after another (if_pfsync.c; that it is shown is this project's profile).
use Rattle.std.specs.Prelude.{◌≡◌, ◌<◌, ◌≤◌, ◌+◌, ◌⊎◌, ℕ, Bool, true, false, not, ◌&&◌, ◌||◌, ◌==◌, nat_le, List, [], ◌∷◌, length, Option, Some}
use Rattle.std.specs.Prelude.{None, IsSomeAnd, if◌then◌else◌}
use Rattle.std.specs.Option.{IsSome, option_map}
use Rattle.pfl_base.specs.declared.kernel.Kernel.{Kernel}
use Rattle.pfl_base.specs.declared.state_name.StateName.{StateName}
use Rattle.pfl_base.specs.Keys.{is_key}
use Rattle.pfl_edits.specs.Maps as maps
use Rattle.pfl_track.specs.declared.key_pair.KeyFields.{KeyFields}
use Rattle.pfl_wire.specs.declared.message.Message.{Message}
use Rattle.pfl_wire.specs.declared.message.Message.TheVariants as message
use Rattle.pfl_wire.specs.declared.message.BulkStatus.TheVariants.{Start, End as Finish}
use Rattle.pfl_bulk.specs.declared.BulkClient.TheVariants as client
use Rattle.pfl_bulk.specs.declared.BulkServer.TheVariants as server
use Rattle.pfl_bulk.specs.Bulk.{heard, is_waiting, no_name}
use Rattle.pfl_world.specs.desk.Changes.{count_bad, is_held}
use Rattle.pfl_world.specs.desk.Nodes.{Node}
use Rattle.pfl_merge.specs.declared.received.Received.{Received}
use Rattle.pfl_queue.specs.declared.Kind.TheVariants.{Delete, Update}
use Rattle.pfl_queue.specs.Queues.{is_requested, kind_of, with_status}
use Rattle.pfl_world.specs.receive.declared.decision.BadRecord.{BadRecord}
use Rattle.pfl_world.specs.receive.declared.decision.BadRecord.TheVariants as bad
use Rattle.pfl_world.specs.receive.declared.decision.Decision.{Decision}
use Rattle.pfl_world.specs.receive.declared.decision.Decision.TheVariants as decision
use Rattle.pfl_world.specs.receive.Bringing.{name_in, received_in, whole_in}
use Rattle.pfl_world.specs.receive.Receiving.{cleared_names, decided, taken}
use Rattle.pfl_world.specs.table.Tables.{AreStates}
use Rattle.pfl_reasons.specs.declared.record_fate.RecordFate.{RecordFate}
use Rattle.pfl_reasons.specs.declared.record_fate.RecordFate.TheVariants.{Bad, Imported, Merged, Asked, Queued, Bulk, Acknowledged, Deleted, Cleared}
use Rattle.pfl_reasons.specs.declared.record_fate.RecordFate.TheVariants.{Heard, Nothing}
use Rattle.pfl_reasons.specs.declared.record_fate.TakenEnds.{TakenEnds}
use Rattle.pfl_reasons.specs.declared.record_fate.TakenRecord.{TakenRecord}
use Rattle.pfl_reasons.specs.Packets.{HasState}

-- which ends of a record are taken, where the rule `merge` is the kernel's: the source unless it is older, and the destination unless both
-- are (if_pfsync.c, as far as we know it). By the profile those are taken that are not older, and nothing more is shown
abbrev pub ends_taken : Kernel → Bool → Bool → Option TakenEnds
ends_taken k stale_src stale_dst = if k.merge then Some (record { src = not stale_src; dst = not (stale_dst && stale_src) }) else None

-- a clear names it: it is the creator's, and not above the bound
abbrev pub is_named : ℕ → ℕ → StateName → Bool
is_named creator bound name = (name.creator == creator) && nat_le name.id bound

-- what is shown of a decision about a record at the node
abbrev pub shown_of : Node → Decision → RecordFate
shown_of n (decision.Bad why) = Bad why
shown_of n (decision.Import s ack_wanted) = Imported s.last
shown_of n (decision.Merge m) = Merged m.stale_src m.stale_dst m.state.last (ends_taken n.limits.kernel m.stale_src m.stale_dst)
shown_of n (decision.Ask name) = Asked
shown_of n (decision.Queue name) = Queued
shown_of n (decision.Serve begins) = Bulk begins
shown_of n (decision.Release name) = Acknowledged
shown_of n (decision.Delete name) = Deleted
shown_of n (decision.Clear creator bound) = Cleared (length (cleared_names n creator bound))
shown_of n (decision.Hear status) = Heard
shown_of n decision.Nothing = Nothing

-- what becomes of a record; same_rules says that the peer's rules are the node's own
abbrev pub record_fate : Node → Bool → Message → RecordFate
record_fate n same_rules m = shown_of n (decided n same_rules m)

-- records one after another, each with what becomes of it
unfoldable pub fates : Node → Bool → List Message → List TakenRecord
fates n same_rules [] = []
fates n same_rules (m ∷ ms) = record { message = m; fate = record_fate n same_rules m } ∷ fates (taken n same_rules m) same_rules ms

-- ---- what follows for the node after it

-- the keys of the state that a record brings whole; another brings none
abbrev pub keys_in : Message → Option KeyFields
keys_in m = option_map (λ r. r.keys) (whole_in m)

-- what can become of a record of each kind
abbrev pub IsFateOf : Message → RecordFate → Type 0
IsFateOf (message.Clear creator bound) (Cleared many) = Unit {0}
IsFateOf (message.Insert r) (Bad why) = Unit {0}
IsFateOf (message.Insert r) (Imported last) = Unit {0}
IsFateOf (message.InsertAck name) Acknowledged = Unit {0}
IsFateOf (message.InsertAck name) Nothing = Unit {0}
IsFateOf (message.Update r) (Bad why) = Unit {0}
IsFateOf (message.Update r) (Imported last) = Unit {0}
IsFateOf (message.Update r) (Merged stale_src stale_dst last ends) = Unit {0}
IsFateOf (message.UpdateShort u) (Merged stale_src stale_dst last ends) = Unit {0}
IsFateOf (message.UpdateShort u) Asked = Unit {0}
IsFateOf (message.UpdateRequest name) (Bad why) = Unit {0}
IsFateOf (message.UpdateRequest name) (Bulk begins) = Unit {0}
IsFateOf (message.UpdateRequest name) Queued = Unit {0}
IsFateOf (message.UpdateRequest name) Nothing = Unit {0}
IsFateOf (message.Delete r) (Bad why) = Unit {0}
IsFateOf (message.Delete r) Deleted = Unit {0}
IsFateOf (message.DeleteShort name) (Bad why) = Unit {0}
IsFateOf (message.DeleteShort name) Deleted = Unit {0}
IsFateOf (message.Bulk creator status) Heard = Unit {0}
IsFateOf (message.Bulk creator status) Nothing = Unit {0}
IsFateOf _ _ = ⊥

-- why a record is bad is so at the node before it
abbrev pub IsBadFor : Node → StateName → Option KeyFields → BadRecord → Type 0
IsBadFor n name keys bad.Unknown = maps.get n.states name ≡ None
IsBadFor n name keys bad.Known = IsSome (maps.get n.states name)
IsBadFor n name keys bad.NotGiven = (name.creator ≡ n.creator) × (n.next_id ≤ name.id)
IsBadFor n name keys bad.Deleting = (n.limits.kernel.revive ≡ false) × (kind_of n.queue name ≡ Some Delete)
IsBadFor n name keys (bad.WireInUse other) = IsSomeAnd keys (λ k. HasState n other (λ s. is_key s.wire k.wire ≡ true))
IsBadFor n name keys (bad.StackInUse other) = IsSomeAnd keys (λ k. HasState n other (λ s. is_key s.stack k.stack ≡ true))
IsBadFor n name keys bad.Full = n.limits.states ≤ maps.len n.states

-- as many records are counted as bad, and as many as stale
abbrev pub CountedAsMany : Node → Node → Type 0
CountedAsMany n after = (after.counters.bad ≡ n.counters.bad) × (after.counters.stale ≡ n.counters.stale)

-- the node has a state of the name, which counts as last used then
abbrev pub IsLastUsed : Node → StateName → ℕ → Type 0
IsLastUsed n name last = IsSomeAnd (maps.get n.states name) (λ s. s.last ≡ last)

-- the ends that a merge took: those that are shown, or else those that are not older
abbrev pub ends_of : Option TakenEnds → Bool → Bool → TakenEnds
ends_of (Some ends) stale_src stale_dst = ends
ends_of None stale_src stale_dst = record { src = not stale_src; dst = not stale_dst }

-- the state of the name counts as last used then, and each end of it that was taken is that of the record, and any other what it was
abbrev pub IsMergedSo : Node → StateName → TakenEnds → ℕ → Node → Received → Type 0
IsMergedSo n name ends last after r =
    IsSomeAnd (maps.get n.states name) (λ s.
    IsSomeAnd (maps.get after.states name) (λ t.
    (t.last ≡ last) × (t.src ≡ (if ends.src then r.src else s.src)) × (t.dst ≡ (if ends.dst then r.dst else s.dst))))

-- the state that the node has under the name is on the queue of updates
abbrev pub IsQueued : Node → StateName → Node → Type 0
IsQueued n name after = IsSomeAnd (maps.get n.states name) (λ s. kind_of after.queue s.name ≡ Some Update)

-- the state of the name waited for its acknowledgement and does not any more, and no packet of it is held
abbrev pub WaitsNoMore : Node → StateName → Node → Type 0
WaitsNoMore n name after = IsSomeAnd (maps.get n.states name) (λ s. s.ack_wanted ≡ true)
    × IsSomeAnd (maps.get after.states name) (λ s. s.ack_wanted ≡ false) × (is_held after name ≡ false)

-- the server begins with the first state, and the start is announced; without states it is as it was, and the end is announced
abbrev pub BulkBegins : Node → Bool → Node → Type 0
BulkBegins n true after = (0 < maps.len n.states) × (after.server ≡ server.Serving no_name n.clock) × (after.queue ≡ with_status n.queue Start)
BulkBegins n false after = (maps.len n.states ≡ 0) × (after.server ≡ n.server) × (after.queue ≡ with_status n.queue Finish)

-- the client waited, and waits anew from now on or, after an end, no more; nothing else changes
abbrev pub HasHeard : Node → Node → Type 0
HasHeard n after = (is_waiting n.client ≡ true) × (after ≡ record n { client = after.client })
    × ((after.client ≡ heard n.client n.clock) ⊎ (after.client ≡ client.Idle))

-- What a fate says of the node before the record and after it. A bad record is so for the reason that is shown, is counted, and does
-- nothing else; one without effect leaves the node as it is; any other is not bad, and is stale where an end was. A state that is taken
-- over was not known, and is then there with the last use that is shown; one that is merged was there, and has the ends that were taken from
-- the record. What is asked for was not known, and is on the list of requests then; what is queued is on the queue of updates; what is deleted
-- was known, and is gone; and a clear leaves as many states fewer as it says. What is said of a state that is merged or acknowledged is so
-- where each state is under its own name, as at any node of a pair
abbrev pub CountedSo : Node → Node → StateName → Option KeyFields → Option Received → RecordFate → Type 0
CountedSo n after name keys received (Bad why) = (after ≡ count_bad n) × IsBadFor n name keys why
CountedSo n after name keys received Nothing = after ≡ n
CountedSo n after name keys received (Imported last) = CountedAsMany n after × (maps.get n.states name ≡ None) × IsLastUsed after name last
CountedSo n after name keys received (Merged stale_src stale_dst last ends) = (after.counters.bad ≡ n.counters.bad)
    × (after.counters.stale ≡ n.counters.stale + (if stale_src || stale_dst then 1 else 0))
    × (ends ≡ ends_taken n.limits.kernel stale_src stale_dst)
    × (AreStates n.states → IsSomeAnd received (IsMergedSo n name (ends_of ends stale_src stale_dst) last after))
CountedSo n after name keys received Asked = CountedAsMany n after × (maps.get n.states name ≡ None) × (is_requested after.queue name ≡ true)
CountedSo n after name keys received Queued = CountedAsMany n after × IsQueued n name after
CountedSo n after name keys received (Bulk begins) = CountedAsMany n after × BulkBegins n begins after
CountedSo n after name keys received Acknowledged = CountedAsMany n after × (AreStates n.states → WaitsNoMore n name after)
CountedSo n after name keys received Deleted = CountedAsMany n after × IsSome (maps.get n.states name) × (maps.get after.states name ≡ None)
CountedSo n after name keys received (Cleared many) = CountedAsMany n after × (maps.len n.states ≡ maps.len after.states + many)
CountedSo n after name keys received Heard = HasHeard n after

-- the fate is one of a record of this kind, and what it says is so
abbrev pub FatedSo : Node → Message → RecordFate → Node → Type 0
FatedSo n m fate after = IsFateOf m fate × CountedSo n after (name_in m) (keys_in m) (received_in m) fate
