-- Whatever is called, the queues are queues.
use Rattle.std.proofs.Common.{◌≡◌, true, false, List, [], ◌∷◌, ◌++◌, Some, None, is_some, nat_lt, refl, arith}
use Rattle.std.specs.Prelude.{if◌then◌else◌}
use Rattle.std.specs.List.{fold}
use Rattle.std.proofs.lemmas.Bool.Decides.{nat_tests}
use Rattle.pfl_queue.specs.declared.Entry.{Entry}
use Rattle.pfl_queue.specs.Queues.{Queue, IsQueue, marked, is_requested, with_status, with_clear, room_fault, most_numbers, mark_fault, list_fault}
use Rattle.pfl_queue.specs.Taking.{gone, left_by, next_frame}
use Rattle.pfl_queue.specs.Laws.{Call, Marking, MarkingOn, Unmarking, Asking, Telling, Clearing, Sending, called, NothingTwice, NothingTwiceAfterCalls}
use Rattle.pfl_queue.proofs.Keeping.{empty_kept, has_room, has_number, marked_kept, unmarked_kept, request_kept, status_kept, clear_kept, gone_kept}
use Rattle.pfl_queue.proofs.Values.{one_name_each, one_number_each}

pub left_kept : (es : List Entry) (q : Queue) → IsQueue q → IsQueue (left_by q es)
left_kept [] q is = is
left_kept (e ∷ es) q is = left_kept es (gone q e) (gone_kept q is e)

called_kept : (q : Queue) → IsQueue q → (c : Call) → IsQueue (called q c)
called_kept q is (Marking name kind) = elim (mark_fault q name) as (λ o. mark_fault q name ≡ o → IsQueue (if is_some o then q else marked q name kind)) [
  | None ↦ λ free. marked_kept q is name kind (has_room q name free) (has_number q name free)
  | Some fault ↦ λ free. is
] refl
called_kept q is (MarkingOn name kind) = elim (room_fault q name) as (λ o. room_fault q name ≡ o
    → IsQueue (if is_some o then q else if nat_lt q.next most_numbers then marked q name kind else q)) [
      | None ↦ λ free. elim (nat_lt q.next most_numbers) as (λ b. nat_lt q.next most_numbers ≡ b → IsQueue (if b then marked q name kind else q)) [
        | true ↦ λ low. marked_kept q is name kind free (grind (arith, nat_tests))
        | false ↦ λ high. is
      ] refl
      | Some fault ↦ λ free. is
    ] refl
called_kept q is (Unmarking name) = unmarked_kept q is name
called_kept q is (Asking name) =
    elim (is_requested q name) as (λ b. is_requested q name ≡ b
    → IsQueue (if is_some (if b then None else list_fault q) then q else (if b then q else record q { requests = q.requests ++ name ∷ [] }))) [
      | true ↦ λ listed. is
      | false ↦ λ new. elim (list_fault q) as (λ o. list_fault q ≡ o → IsQueue (if is_some o then q else record q { requests = q.requests ++ name ∷ [] })) [
        | None ↦ λ free. request_kept q is free name new
        | Some fault ↦ λ free. is
      ] refl
    ] refl
called_kept q is (Telling status) = elim (list_fault q) as (λ o. list_fault q ≡ o → IsQueue (if is_some o then q else with_status q status)) [
  | None ↦ λ free. status_kept q is free status
  | Some fault ↦ λ free. is
] refl
called_kept q is (Clearing creator bound) = elim (list_fault q) as (λ o. list_fault q ≡ o → IsQueue (if is_some o then q else with_clear q creator bound)) [
  | None ↦ λ free. clear_kept q is free (record { creator = creator; bound = bound })
  | Some fault ↦ λ free. is
] refl
called_kept q is (Sending mtu) = left_kept (next_frame q mtu) q is

after_calls : (calls : List Call) (q : Queue) → IsQueue q → IsQueue (fold called q calls)
after_calls [] q is = is
after_calls (c ∷ calls) q is = after_calls calls (called q c) (called_kept q is c)

-- in any queues
pub nothing_twice_in : (q : Queue) → IsQueue q → NothingTwice q
nothing_twice_in q is = record { names = one_name_each q is; numbers = one_number_each q is; requests = is.asked_once; room = is.few }

pub nothing_twice : NothingTwiceAfterCalls
nothing_twice limit next calls low =
    nothing_twice_in _ (after_calls calls _ (empty_kept limit next (omega (arith, low))))
