-- Laws of the pending queues, in their own words (if_pfsync.c; the numbers are this project's profile).
use Rattle.std.specs.Prelude.{◌≡◌, ◌≢◌, ◌≤◌, ◌<◌, ◌==◌, ℕ, List, [], ◌∷◌, ◌++◌, map, Some, None, is_some, nat_lt, if◌then◌else◌}
use Rattle.std.specs.List.{fold, IsDistinct}
use Rattle.pfl_base.specs.declared.state_name.StateName.{StateName}
use Rattle.pfl_base.specs.Names.{is_name}
use Rattle.pfl_edits.specs.Changes.{Fits}
use Rattle.pfl_edits.specs.Maps as maps
use Rattle.pfl_wire.specs.declared.message.BulkStatus.{BulkStatus}
use Rattle.pfl_queue.specs.declared.Kind.{Kind}
use Rattle.pfl_queue.specs.declared.Mark.{Mark}
use Rattle.pfl_queue.specs.declared.edits.QueueEdit.TheVariants.{OfName}
use Rattle.pfl_queue.specs.Edits.{Finds, put_back}
use Rattle.pfl_queue.specs.Queues.{Queue, IsQueue, pending, empty_queue, marked, unmarked, requested, with_status, with_clear, room_fault}
use Rattle.pfl_queue.specs.Queues.{most_numbers, mark_fault, request_fault, list_fault}
use Rattle.pfl_queue.specs.Taking.{in_turn, next_frame, left_by}

-- a call that lists something, takes a name off or sends a frame
pub data Call : Type 0 where
  Marking : StateName → Kind → Call
  MarkingOn : StateName → Kind → Call
  Unmarking : StateName → Call
  Asking : StateName → Call
  Telling : BulkStatus → Call
  Clearing : ℕ → ℕ → Call
  Sending : ℕ → Call

-- the queues after a call: one that is refused changes nothing, nor does a marking past all numbers, which may not be asked for
abbrev pub called : Queue → Call → Queue
called q (Marking name kind) = if is_some (mark_fault q name) then q else marked q name kind
called q (MarkingOn name kind) = if is_some (room_fault q name) then q else if nat_lt q.next most_numbers then marked q name kind else q
called q (Unmarking name) = unmarked q name
called q (Asking name) = if is_some (request_fault q name) then q else requested q name
called q (Telling status) = if is_some (list_fault q) then q else with_status q status
called q (Clearing creator bound) = if is_some (list_fault q) then q else with_clear q creator bound
called q (Sending mtu) = left_by q (next_frame q mtu)

-- no name stands on two queues, no number and no request stands twice, and no more is pending than there is room for
pub record NothingTwice (q : Queue) : Type 0 where
  pub names : IsDistinct is_name (map (λ m. m.name) (maps.values q.marks))
  pub numbers : IsDistinct (λ a b. a == b) (map (λ m. m.number) (maps.values q.marks))
  pub requests : IsDistinct is_name q.requests
  pub room : pending q ≤ q.limit

-- so it is after any calls
abbrev pub NothingTwiceAfterCalls : Type 0
NothingTwiceAfterCalls = (limit next : ℕ) (calls : List Call) → next ≤ 4294967295 → NothingTwice (fold called (empty_queue limit next) calls)

-- a frame takes from the front of what is pending and skips nothing; what it does not carry is still pending, and the room and the
-- next number are as they were
abbrev pub FramesTakeFromTheFront : Type 0
FramesTakeFromTheFront = (q : Queue) (mtu : ℕ) → IsQueue q
    → (next_frame q mtu ++ in_turn (left_by q (next_frame q mtu)) ≡ in_turn q) × ((left_by q (next_frame q mtu)).limit ≡ q.limit)
    × ((left_by q (next_frame q mtu)).next ≡ q.next)

-- a mark that was taken off fits queues that have room, where its name is off and its former number was given and stands nowhere
abbrev pub FormerMarksGoBack : Type 0
FormerMarksGoBack = (q : Queue) (m : Mark) → IsQueue q → maps.get q.marks m.name ≡ None → pending q < q.limit → m.number < q.next
    → ((n : StateName) (k : Mark) → maps.get q.marks n ≡ Some k → k.number ≢ m.number) → Fits Finds IsQueue put_back (OfName m.name (Some m) None ∷ []) q
