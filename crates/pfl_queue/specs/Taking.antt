-- What a frame takes from the pending queues (if_pfsync.c; the order is this project's profile).
use Rattle.std.specs.Prelude.{ℕ, ◌+◌, Bool, ◌&&◌, ◌||◌, ◌==◌, nat_lt, nat_le, List, [], ◌++◌, map, filter, drop, unwrap_or}
use Rattle.std.specs.List.{fold, sum_by}
use Rattle.pfl_base.specs.Lists.{in_order, last_of, prefixes, neighbours}
use Rattle.pfl_edits.specs.Maps as maps
use Rattle.pfl_wire.specs.declared.action.Action.{Action}
use Rattle.pfl_wire.specs.declared.action.Action.TheVariants as action
use Rattle.pfl_wire.specs.Actions.{action_number, record_len}
use Rattle.pfl_queue.specs.declared.Kind.{Kind}
use Rattle.pfl_queue.specs.declared.Kind.TheVariants.{Insert, InsertAck, Update, UpdateShort, Delete}
use Rattle.pfl_queue.specs.declared.Mark.{Mark}
use Rattle.pfl_queue.specs.declared.Cleared.{Cleared}
use Rattle.pfl_queue.specs.declared.Entry.{Entry}
use Rattle.pfl_queue.specs.declared.Entry.TheVariants.{Marked, Request, Status, Clear}
use Rattle.pfl_queue.specs.Queues.{Queue, unmarked}

-- the place of a kind in a frame
abbrev pub kind_place : Kind → ℕ
kind_place Insert = 0
kind_place InsertAck = 1
kind_place Update = 2
kind_place UpdateShort = 3
kind_place Delete = 4

-- by kind, and then by number
abbrev pub mark_before : Mark → Mark → Bool
mark_before m n = nat_lt (kind_place m.kind) (kind_place n.kind) || ((kind_place m.kind == kind_place n.kind) && nat_lt m.number n.number)

-- a mark as an entry
abbrev pub entry_of : Mark → Entry
entry_of m = Marked m.kind m.number m.name

-- a clear as an entry
abbrev pub clear_of : Cleared → Entry
clear_of c = Clear c.creator c.bound

-- all that is pending, in the order of frames: marks by kind and number, then requests, statuses and clears as they were listed
abbrev pub in_turn : Queue → List Entry
in_turn q = map entry_of (in_order mark_before (maps.values q.marks)) ++ map Request q.requests ++ map Status q.statuses ++ map clear_of q.clears

-- the action that announces a kind; a deletion is announced in short form
abbrev pub kind_action : Kind → Action
kind_action Insert = action.Insert
kind_action InsertAck = action.InsertAck
kind_action Update = action.Update
kind_action UpdateShort = action.UpdateShort
kind_action Delete = action.DeleteShort

-- the action that announces an entry
abbrev pub entry_action : Entry → Action
entry_action (Marked kind number name) = kind_action kind
entry_action (Request name) = action.UpdateRequest
entry_action (Status status) = action.Bulk
entry_action (Clear creator bound) = action.Clear

-- both are one action
abbrev pub one_action : Action → Action → Bool
one_action a b = action_number a == action_number b

-- the bytes of a frame of these records, where neighbours of one action form a group
abbrev pub bytes_of : List Action → ℕ
bytes_of actions = 20 + sum_by (λ group. 4 + sum_by record_len group) (neighbours one_action actions)

-- the longest prefix of what is pending whose frame has at most mtu bytes; there is none where not even a frame without records fits
unfoldable pub next_frame : Queue → ℕ → List Entry
next_frame q mtu = unwrap_or (last_of (filter (λ es. nat_le (bytes_of (map entry_action es)) mtu) (prefixes (in_turn q)))) []

-- the queue after a frame took the entry
abbrev pub gone : Queue → Entry → Queue
gone q (Marked kind number name) = unmarked q name
gone q (Request name) = record q { requests = drop 1 q.requests }
gone q (Status status) = record q { statuses = drop 1 q.statuses }
gone q (Clear creator bound) = record q { clears = drop 1 q.clears }

-- what is left after a frame
abbrev pub left_by : Queue → List Entry → Queue
left_by q es = fold gone q es
