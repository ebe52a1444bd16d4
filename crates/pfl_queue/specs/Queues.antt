-- The pending queues: names with a kind and a number, and lists of requests, statuses and clears (if_pfsync.c; the numbers are
-- this project's profile).
use Rattle.std.specs.Prelude.{◌≡◌, ◌≤◌, ◌<◌, ℕ, ◌+◌, ◌^◌, Bool, not, ◌&&◌, nat_le, List, [], ◌∷◌, ◌++◌, length, refl, Option, Some, None, is_some}
use Rattle.std.specs.Prelude.{if◌then◌else◌}
use Rattle.std.specs.List.{list_any, IsDistinct}
use Rattle.std.specs.Option.{option_map}
use Rattle.std.specs.Coded.{Coded, code_by, coded×, coded_ℕ, coded_list}
use Rattle.pfl_base.specs.declared.state_name.StateName.{StateName}
use Rattle.pfl_base.specs.Names.{name_cmp, is_name, coded_state_name}
use Rattle.pfl_edits.specs.Maps as maps
use Rattle.pfl_edits.specs.Maps.{Map}
use Rattle.pfl_wire.specs.contracts.message.BulkStatus as status_type
use Rattle.pfl_wire.specs.declared.message.BulkStatus.{BulkStatus}
use Rattle.pfl_queue.specs.contracts.Cleared as cleared_type
use Rattle.pfl_queue.specs.contracts.Mark as mark_type
use Rattle.pfl_queue.specs.declared.Kind.{Kind}
use Rattle.pfl_queue.specs.declared.Mark.{Mark}
use Rattle.pfl_queue.specs.declared.Cleared.{Cleared}
use Rattle.pfl_queue.specs.declared.QueueFault.{QueueFault}
use Rattle.pfl_queue.specs.declared.QueueFault.TheVariants.{QueueFull, CountFull}

-- what contracts see of the pending queues
pub record Queue : Type 0 where
  pub limit : ℕ
  pub next : ℕ
  pub marks : Map name_cmp Mark
  pub requests : List StateName
  pub statuses : List BulkStatus
  pub clears : List Cleared

-- as its six fields
abbrev pub coded_queue : Coded Queue
coded_queue =
    code_by (ℕ × (ℕ × (Map name_cmp Mark × (List StateName × (List BulkStatus × List Cleared)))))
    (coded× coded_ℕ (coded× coded_ℕ
    (coded× (maps.code coded_state_name mark_type.the_row.coded)
    (coded× (coded_list coded_state_name) (coded× (coded_list status_type.the_row.coded) (coded_list cleared_type.the_row.coded))))))
    (λ q. (q.limit, (q.next, (q.marks, (q.requests, (q.statuses, q.clears))))))
    (λ p. record { limit = p.0; next = p.1.0; marks = p.1.1.0; requests = p.1.1.1.0; statuses = p.1.1.1.1.0; clears = p.1.1.1.1.1 })
    (λ _. refl)

-- how much is pending
abbrev pub pending : Queue → ℕ
pending q = maps.len q.marks + length q.requests + length q.statuses + length q.clears

-- Inside an event numbers may pass the greatest, 4294967295, since an event is judged as it would go: this is only a bound that
-- no event comes near.
abbrev pub most_numbers : ℕ
most_numbers = 2 ^ 63

-- the pending queues: each mark under its own name with a number of its own below the next one, and no request twice
pub record IsQueue (q : Queue) : Type 0 where
  pub few : pending q ≤ q.limit
  pub filed : (n : StateName) (m : Mark) → maps.get q.marks n ≡ Some m → m.name ≡ n
  pub below : (n : StateName) (m : Mark) → maps.get q.marks n ≡ Some m → m.number < q.next
  pub one_number : (n o : StateName) (m k : Mark) → maps.get q.marks n ≡ Some m → maps.get q.marks o ≡ Some k → m.number ≡ k.number → n ≡ o
  pub asked_once : IsDistinct is_name q.requests
  pub countable : q.next ≤ most_numbers

-- nothing is pending, and the next number is this
abbrev pub empty_queue : ℕ → ℕ → Queue
empty_queue limit next = record { limit = limit; next = next; marks = maps.empty; requests = []; statuses = []; clears = [] }

-- the queue that a name is on
abbrev pub kind_of : Queue → StateName → Option Kind
kind_of q name = option_map (λ m. m.kind) (maps.get q.marks name)

-- the name put on a queue, and off any other, with the next number
abbrev pub marked : Queue → StateName → Kind → Queue
marked q name kind = record q { next = q.next + 1; marks = maps.insert q.marks name (record { name = name; kind = kind; number = q.next }) }

-- the name taken off
abbrev pub unmarked : Queue → StateName → Queue
unmarked q name = record q { marks = maps.remove q.marks name }

-- the name is on the list of requests
abbrev pub is_requested : Queue → StateName → Bool
is_requested q name = list_any (is_name name) q.requests

-- the request on the list, once
abbrev pub requested : Queue → StateName → Queue
requested q name = if is_requested q name then q else record q { requests = q.requests ++ name ∷ [] }

-- the status listed
abbrev pub with_status : Queue → BulkStatus → Queue
with_status q status = record q { statuses = q.statuses ++ status ∷ [] }

-- the clear listed
abbrev pub with_clear : Queue → ℕ → ℕ → Queue
with_clear q creator bound = record q { clears = q.clears ++ record { creator = creator; bound = bound } ∷ [] }

-- why there is no room to mark a name: one that is marked already takes none
abbrev pub room_fault : Queue → StateName → Option QueueFault
room_fault q name = if not (is_some (maps.get q.marks name)) && nat_le q.limit (pending q) then Some QueueFull else None

-- why a name may not be marked, if there is a reason: the first one
abbrev pub mark_fault : Queue → StateName → Option QueueFault
mark_fault q name =
    if not (is_some (maps.get q.marks name)) && nat_le q.limit (pending q) then Some QueueFull else
    if nat_le 4294967295 q.next then Some CountFull else None

-- why no status and no clear may be listed
abbrev pub list_fault : Queue → Option QueueFault
list_fault q = if nat_le q.limit (pending q) then Some QueueFull else None

-- why a name may not be asked for: a request that is listed already takes no room
abbrev pub request_fault : Queue → StateName → Option QueueFault
request_fault q name = if is_requested q name then None else list_fault q
