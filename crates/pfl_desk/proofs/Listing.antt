-- What a node keeps where a request, a bulk status or a clear is listed, and what is recorded of it.
use Rattle.std.specs.Prelude.{◌≡◌, ◌≤◌, ℕ, ◌+◌, Bool, true, false, [], ◌∷◌, ◌++◌, Option, Some, None, if◌then◌else◌, refl}
use Rattle.std.proofs.Common.{cond, ap, arith}
use Rattle.pfl_base.specs.declared.state_name.StateName.{StateName}
use Rattle.pfl_edits.proofs.ForCallers.{LeadsBack-one}
use Rattle.pfl_wire.specs.declared.message.BulkStatus.{BulkStatus}
use Rattle.pfl_queue.specs.declared.edits.QueueEdit.{QueueEdit}
use Rattle.pfl_queue.specs.Edits.{QueueLeadsBack}
use Rattle.pfl_queue.specs.Queues.{Queue, list_fault, request_fault, is_requested}
use Rattle.pfl_queue.proofs.ForCallers.{status_kept, clear_kept, request_kept}
use Rattle.pfl_desk.specs.declared.edit.NodeEdit.TheVariants.{OfQueue}
use Rattle.pfl_desk.specs.Changes.{list_request, list_status, list_clear}
use Rattle.pfl_desk.specs.Edits.{Finds, put_back, NextStays, total}
use Rattle.pfl_desk.specs.inner.Drafting.{Makes}
use Rattle.pfl_desk.specs.Nodes.{Node, AreParts}
use Rattle.pfl_desk.proofs.Keeps.{keeps_queue}

-- ---- what stays a node's parts

pub status-node : (n : Node) (status : BulkStatus) → AreParts n → list_fault n.queue ≡ None → AreParts (list_status n status)
status-node n status is free = keeps_queue n _ is (status_kept n.queue is.queue free status) refl is.marks

pub clear-node : (n : Node) (creator bound : ℕ) → AreParts n → list_fault n.queue ≡ None → AreParts (list_clear n creator bound)
clear-node n creator bound is free = keeps_queue n _ is (clear_kept n.queue is.queue free (record { creator = creator; bound = bound })) refl is.marks

pub request-node : (n : Node) (name : StateName) → AreParts n → request_fault n.queue name ≡ None → AreParts (list_request n name)
request-node n name is = by (is_requested n.queue name) refl
  where
    by : (b : Bool) → is_requested n.queue name ≡ b → (if b then None else list_fault n.queue) ≡ None
        → AreParts (record n { queue = cond b n.queue (record n.queue { requests = n.queue.requests ++ name ∷ [] }) })
    by true at free = is
    by false at free = keeps_queue n _ is (request_kept n.queue is.queue free name at) refl is.marks

-- ---- what is recorded

-- a request is recorded where it is new
pub new-request : (b : Bool) (o : Option QueueEdit) (e f : QueueEdit) → o ≡ (if b then None else Some f) → o ≡ Some e → (b ≡ false) × (e ≡ f)
new-request true o e f is there = absurd (cc)
new-request false o e f is there = (refl, cc)

-- a new request takes no number
pub request-next : (q : Queue) (name : StateName) → is_requested q name ≡ false
    → (if is_requested q name then q else record q { requests = q.requests ++ name ∷ [] }).next ≡ q.next
request-next q name new = ap (λ b. (cond b q (record q { requests = q.requests ++ name ∷ [] })).next) new

total-queue : (n : Node) (q : Queue) → q.next ≡ n.queue.next → total (record n { queue = q }) ≤ total n + 1
unfolding total
total-queue n q next = omega (arith, next)

-- an edit of what is pending that takes no number
pub makes_queue : (n : Node) (e : QueueEdit) (q : Queue) → AreParts n → QueueLeadsBack (e ∷ []) n.queue q → NextStays e
    → q.next ≡ n.queue.next → Makes (OfQueue e ∷ []) n (record n { queue = q })
makes_queue n e q is back stays next = record {
  leads_back = LeadsBack-one Finds AreParts put_back (OfQueue e) n (record n { queue = q }) (back.fits.1, stays) is
      (ap (λ (r : Queue). record n { queue = r }) back.back);
  counted = total-queue n q next;
}
