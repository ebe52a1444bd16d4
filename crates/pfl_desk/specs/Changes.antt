-- The small changes that events are made of (pfsync(4): all local changes are announced, several of one state in one record, those
-- of a rule with `no-sync` never; when a push is asked, and how deletions are announced, is this project's profile, after if_pfsync.c).
use Rattle.std.specs.Prelude.{ℕ, ◌+◌, ◌-◌, Bool, true, false, not, ◌&&◌, ◌||◌, nat_lt, nat_le, min, Option, Some, None, is_some, if◌then◌else◌}
use Rattle.std.specs.Option.{option_map_or}
use Rattle.pfl_base.specs.declared.state_name.StateName.{StateName}
use Rattle.pfl_base.specs.Packets.{is_tcp}
use Rattle.pfl_edits.specs.Maps as maps
use Rattle.pfl_track.specs.declared.state.State.{State}
use Rattle.pfl_wire.specs.declared.message.BulkStatus.{BulkStatus}
use Rattle.pfl_queue.specs.declared.Kind.{Kind}
use Rattle.pfl_queue.specs.declared.Kind.TheVariants.{Insert, InsertAck, UpdateShort, Delete}
use Rattle.pfl_queue.specs.Queues.{kind_of, marked, unmarked, requested, is_requested, with_status, with_clear}
use Rattle.pfl_defer.specs.Deferring.{held_of, let_go}
use Rattle.pfl_desk.specs.Nodes.{Node}

-- ---- one place each

-- the state under its name
abbrev pub put_state : Node → State → Node
put_state n s = record n { states = maps.insert n.states s.name s }

-- no state under the name
abbrev pub without_state : Node → StateName → Node
without_state n name = record n { states = maps.remove n.states name }

-- the name on a queue, with the next number
abbrev pub mark : Node → StateName → Kind → Node
mark n name kind = record n { queue = marked n.queue name kind }

-- the name on no queue
abbrev pub unmark : Node → StateName → Node
unmark n name = record n { queue = unmarked n.queue name }

-- a frame is wanted soon
abbrev pub push_if : Bool → Node → Node
push_if asked n = record n { push = n.push || asked }

-- one packet more was passed
abbrev pub count_passed : Node → Node
count_passed n = record n { counters = record n.counters { passed = n.counters.passed + 1 } }

-- one packet more was dropped
abbrev pub count_blocked : Node → Node
count_blocked n = record n { counters = record n.counters { blocked = n.counters.blocked + 1 } }

-- one held packet more went out
abbrev pub count_freed : Node → Node
count_freed n = record n { counters = record n.counters { freed = n.counters.freed + 1 } }

-- one held packet more was dropped
abbrev pub count_lost : Node → Node
count_lost n = record n { counters = record n.counters { lost = n.counters.lost + 1 } }

-- one record more was bad
abbrev pub count_bad : Node → Node
count_bad n = record n { counters = record n.counters { bad = n.counters.bad + 1 } }

-- one record more was stale
abbrev pub count_stale : Node → Node
count_stale n = record n { counters = record n.counters { stale = n.counters.stale + 1 } }

-- one frame more could not be read
abbrev pub count_broken : Node → Node
count_broken n = record n { counters = record n.counters { broken = n.counters.broken + 1 } }

-- a request on the list, once
abbrev pub list_request : Node → StateName → Node
list_request n name = record n { queue = requested n.queue name }

-- a bulk status on the list
abbrev pub list_status : Node → BulkStatus → Node
list_status n status = record n { queue = with_status n.queue status }

-- a clear on the list
abbrev pub list_clear : Node → ℕ → ℕ → Node
list_clear n creator bound = record n { queue = with_clear n.queue creator bound }

-- a name is asked for, soon where it was not asked for already
abbrev pub ask : Node → StateName → Node
ask n name = push_if (not (is_requested n.queue name)) (list_request n name)

-- a bulk status is to be sent, soon
abbrev pub announce_status : Node → BulkStatus → Node
announce_status n status = push_if true (list_status n status)

-- a clear is to be sent, soon
abbrev pub announce_clear : Node → ℕ → ℕ → Node
announce_clear n creator bound = push_if true (list_clear n creator bound)

-- ---- held packets (ifconfig(8), `defer`)

-- a packet of the name is held
abbrev pub is_held : Node → StateName → Bool
is_held n name = is_some (held_of n.held name)

-- no packet of the name is held
abbrev pub without_held : Node → StateName → Node
without_held n name = record n { held = let_go n.held name }

-- the packet of the name goes out, if one is held
abbrev pub freed : Node → StateName → Node
freed n name = if is_held n name then count_freed (without_held n name) else n

-- the packet of the name is dropped, if one is held
abbrev pub lost : Node → StateName → Node
lost n name = if is_held n name then count_lost (without_held n name) else n

-- its state waits for no acknowledgement
abbrev pub not_waiting : Node → StateName → Node
not_waiting n name = option_map_or (λ s. put_state n (record s { ack_wanted = false })) (maps.get n.states name) n

-- the packet of the name goes out, and its state waits no more
abbrev pub released : Node → StateName → Node
released n name = not_waiting (freed n name) name

-- ---- local changes (pfsync(4); if_pfsync.c: the queues and the push)

-- on no queue, or only to be acknowledged
abbrev pub is_unannounced : Option Kind → Bool
is_unannounced None = true
is_unannounced (Some InsertAck) = true
is_unannounced (Some _) = false

-- the peer changed the state less than two seconds ago
abbrev pub is_recent : Node → State → Bool
is_recent n s = option_map_or (λ t. nat_lt (n.clock - t) 2000) s.peer_change false

-- a state whose name is on a queue already counts its updates, and asks for a push after enough of them
abbrev pub counted : Node → State → Node
counted n s =
    if is_tcp s.wire.proto
    then push_if (nat_le n.limits.maxupd (min 255 (s.updates + 1))) (put_state n (record s { updates = min 255 (s.updates + 1) }))
    else put_state n s

-- the state is announced to the peer by an update, which stands for all that are not sent yet; not while its deletion is pending, as it
-- may be with `revive`
abbrev pub told : Node → State → Node
told n s = if is_unannounced (kind_of n.queue s.name) then mark (put_state n (record s { updates = 0 })) s.name UpdateShort else counted n s

-- the node with its state s changed by itself
unfoldable pub changed : Node → State → Node
changed n s = if s.no_sync then put_state n s else push_if (is_recent n s) (told n s)

-- the peer has not heard of it
abbrev pub is_insert : Option Kind → Bool
is_insert (Some Insert) = true
is_insert _ = false

-- its deletion is still to be announced
abbrev pub is_delete : Option Kind → Bool
is_delete (Some Delete) = true
is_delete _ = false

-- with `revive` a name with a state may have a pending deletion, which then stays (if_pfsync.c, as far as we know it)
abbrev pub keeps_deletion : Node → StateName → Bool
keeps_deletion n name = n.limits.kernel.revive && is_delete (kind_of n.queue name)

-- the deletion of the name is announced, once: where it is pending already, as it may be with `revive`, it stays in its place
abbrev pub mark_deletion : Node → StateName → Node
mark_deletion n name = record n { queue = if keeps_deletion n name then n.queue else marked n.queue name Delete }

-- what the peer has not heard of is forgotten; else the deletion is announced
abbrev pub deletion_announced : Node → State → Node
deletion_announced n s =
    if is_insert (kind_of n.queue s.name) then unmark n s.name else if s.no_sync then n else mark_deletion n s.name

-- the node without its state s, by itself
unfoldable pub deleted : Node → State → Node
deleted n s = deletion_announced (without_state (lost n s.name) s.name) s

-- the name is taken off its queue; a pending deletion stays
abbrev pub withdraw : Node → StateName → Node
withdraw n name = record n { queue = if keeps_deletion n name then n.queue else unmarked n.queue name }

-- the node without the state of the name, unannounced
unfoldable pub forgotten : Node → StateName → Node
forgotten n name = withdraw (without_state (lost n name) name) name
