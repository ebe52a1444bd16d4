-- How the fields of the pending queues stand for them. This project's profile.
use Rattle.std.specs.Prelude.{◌≡◌, ◌≤◌, ℕ, List}
use Rattle.pfl_base.specs.declared.state_name.StateName.{StateName}
use Rattle.pfl_containers.specs.Lists.{Link}
use Rattle.pfl_wire.specs.declared.message.BulkStatus.{BulkStatus}
use Rattle.pfl_queue.specs.declared.Mark.{Mark}
use Rattle.pfl_queue.specs.declared.Cleared.{Cleared}
use Rattle.pfl_queue.specs.inner.Marked.{marks_of}
use Rattle.pfl_queue.specs.Queues.{Queue, IsQueue}

-- the queues that the fields stand for
abbrev pub queue_of : ℕ → ℕ → List (List (Link Mark)) → List StateName → List BulkStatus → List Cleared → Queue
queue_of limit next lists requests statuses clears = record {
  limit = limit;
  next = next;
  marks = marks_of lists;
  requests = requests;
  statuses = statuses;
  clears = clears;
}

-- there is room for `limit` marks and requests, and for as many statuses and clears, and the fields stand for queues
pub record IsKept (q : Queue) (marks requests statuses clears : ℕ) : Type 0 where
  pub marks_room : marks ≡ q.limit
  pub requests_room : requests ≡ q.limit
  pub statuses_room : q.limit ≤ statuses
  pub clears_room : q.limit ≤ clears
  pub queue : IsQueue q
