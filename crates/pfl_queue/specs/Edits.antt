-- The edits of the pending queues, and what their operations record. This project's profile.
use Rattle.std.specs.Prelude.{◌≡◌, ℕ, ◌+◌, List, length, Option, Some, None}
use Rattle.pfl_base.specs.declared.state_name.StateName.{StateName}
use Rattle.pfl_edits.specs.Changes.{LeadsBack}
use Rattle.pfl_edits.specs.Maps as maps
use Rattle.pfl_edits.specs.Maps.{set_at}
use Rattle.pfl_edits.specs.Places.{StandsAt, with_position}
use Rattle.pfl_wire.specs.declared.message.BulkStatus.{BulkStatus}
use Rattle.pfl_queue.specs.declared.Kind.{Kind}
use Rattle.pfl_queue.specs.declared.Mark.{Mark}
use Rattle.pfl_queue.specs.declared.Entry.{Entry}
use Rattle.pfl_queue.specs.declared.Entry.TheVariants.{Marked, Request, Status, Clear}
use Rattle.pfl_queue.specs.declared.edits.QueueEdit.{QueueEdit}
use Rattle.pfl_queue.specs.declared.edits.QueueEdit.TheVariants.{OfMark, OfName, OfRequest, OfStatus, OfClear}
use Rattle.pfl_queue.specs.Queues.{Queue, IsQueue}

-- the queues with this under the name, and this next number
abbrev pub with_mark : Queue → StateName → Option Mark → ℕ → Queue
with_mark q name at next = record q { next = next; marks = set_at q.marks name at }

-- the queues with this under the name alone
abbrev pub with_name : Queue → StateName → Option Mark → Queue
with_name q name at = record q { marks = set_at q.marks name at }

-- the edit with its former value and its new one exchanged
abbrev pub reversed : QueueEdit → QueueEdit
reversed (OfMark name before after next_before next_after) = OfMark name after before next_after next_before
reversed (OfName name before after) = OfName name after before
reversed (OfRequest position before after) = OfRequest position after before
reversed (OfStatus position before after) = OfStatus position after before
reversed (OfClear position before after) = OfClear position after before

-- the edit finds its former value in its place
abbrev pub FindsFormer : QueueEdit → Queue → Type 0
FindsFormer (OfMark name before after next_before next_after) q = (maps.get q.marks name ≡ before) × (q.next ≡ next_before)
FindsFormer (OfName name before after) q = maps.get q.marks name ≡ before
FindsFormer (OfRequest position before after) q = StandsAt q.requests position before
FindsFormer (OfStatus position before after) q = StandsAt q.statuses position before
FindsFormer (OfClear position before after) q = StandsAt q.clears position before

-- the queues with the edit's new value in its place
abbrev pub redone : QueueEdit → Queue → Queue
redone (OfMark name before after next_before next_after) q = with_mark q name after next_after
redone (OfName name before after) q = with_name q name after
redone (OfRequest position before after) q = record q { requests = with_position q.requests position before after }
redone (OfStatus position before after) q = record q { statuses = with_position q.statuses position before after }
redone (OfClear position before after) q = record q { clears = with_position q.clears position before after }

-- the edit finds its new value in its place
abbrev pub Finds : QueueEdit → Queue → Type 0
Finds edit q = FindsFormer (reversed edit) q

-- the queues with the edit's former value in its place
abbrev pub put_back : QueueEdit → Queue → Queue
put_back edit q = redone (reversed edit) q

-- the edits lead from one state of the queues to another and back
abbrev pub QueueLeadsBack : List QueueEdit → Queue → Queue → Type 0
QueueLeadsBack = LeadsBack Finds IsQueue put_back

-- what marking a name records,
abbrev pub marking : Queue → StateName → Kind → QueueEdit
marking q name kind = OfMark name (maps.get q.marks name) (Some (record { name = name; kind = kind; number = q.next })) q.next (q.next + 1)

-- what taking a name off records,
abbrev pub unmarking : Queue → StateName → QueueEdit
unmarking q name = OfName name (maps.get q.marks name) None

-- what listing a request, a status and a clear records,
abbrev pub requesting : Queue → StateName → QueueEdit
requesting q name = OfRequest (length q.requests) None (Some name)

abbrev pub listing_status : Queue → BulkStatus → QueueEdit
listing_status q status = OfStatus (length q.statuses) None (Some status)

abbrev pub listing_clear : Queue → ℕ → ℕ → QueueEdit
listing_clear q creator bound = OfClear (length q.clears) None (Some (record { creator = creator; bound = bound }))

-- and what a frame records that takes the entry, the first one pending
abbrev pub taking : Entry → QueueEdit
taking (Marked kind number name) = OfName name (Some (record { name = name; kind = kind; number = number })) None
taking (Request name) = OfRequest 0 (Some name) None
taking (Status status) = OfStatus 0 (Some status) None
taking (Clear creator bound) = OfClear 0 (Some (record { creator = creator; bound = bound })) None
