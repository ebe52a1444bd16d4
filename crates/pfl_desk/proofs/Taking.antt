-- The entries of the next frame are taken out of the queue, which leads back.
use Rattle.std.proofs.Common.{◌≡◌, ℕ, ◌+◌, List, [], ◌∷◌, ◌++◌, map, refl, sym, ◌∙◌, ap, subst, arith}
use Rattle.pfl_edits.specs.Changes.{LeadsBack}
use Rattle.pfl_edits.proofs.ForCallers.{LeadsBack-one, LeadsBack-none, LeadsBack-append}
use Rattle.pfl_queue.specs.declared.Entry.{Entry}
use Rattle.pfl_queue.specs.declared.Entry.TheVariants.{Marked, Request, Status, Clear}
use Rattle.pfl_queue.specs.declared.edits.QueueEdit.{QueueEdit}
use Rattle.pfl_queue.specs.Edits.{taking}
use Rattle.pfl_queue.specs.Queues.{Queue}
use Rattle.pfl_queue.specs.Taking.{in_turn, gone, left_by, next_frame}
use Rattle.pfl_queue.proofs.ForCallers.{mark_stood, frame_begins, first_found, front_gone, redone_gone, next_stays, gone_kept}
use Rattle.pfl_desk.specs.declared.edit.NodeEdit.TheVariants.{OfQueue}
use Rattle.pfl_desk.specs.Edits.{Finds, FindsFormer, NextStays, put_back, redone, total}
use Rattle.pfl_desk.specs.inner.Drafting.{Makes}
use Rattle.pfl_desk.specs.inner.BothWays.{edit-both_ways}
use Rattle.pfl_desk.specs.Nodes.{Node, AreParts}
use Rattle.pfl_desk.specs.inner.Taking.{of_queue, taken_from}
use Rattle.pfl_desk.proofs.Keeps.{keeps_queue}

-- ---- what is left is a node

limit_stays : (q : Queue) (e : Entry) → (gone q e).limit ≡ q.limit
limit_stays q (Marked kind number name) = refl
limit_stays q (Request name) = refl
limit_stays q (Status status) = refl
limit_stays q (Clear creator bound) = refl

gone-node : (n : Node) (e : Entry) → AreParts n → AreParts (record n { queue = gone n.queue e })
gone-node n e is =
    keeps_queue n (gone n.queue e) is (gone_kept n.queue is.queue e) (limit_stays n.queue e)
    (λ name k at. is.marks name k (mark_stood n.queue is.queue e name k at))

pub left-node : (es : List Entry) (n : Node) → AreParts n → AreParts (record n { queue = left_by n.queue es })
left-node [] n is = is
left-node (e ∷ es) n is = left-node es (record n { queue = gone n.queue e }) (gone-node n e is)

-- ---- the edits lead back

-- no number changes
taking-stays : (e : Entry) → NextStays (taking e)
taking-stays (Marked kind number name) = tt
taking-stays (Request name) = tt
taking-stays (Status status) = tt
taking-stays (Clear creator bound) = tt

taken-back : (es : List Entry) (n : Node) → AreParts n → (rest : List Entry) → es ++ rest ≡ in_turn n.queue
    → LeadsBack Finds AreParts put_back (of_queue (map taking es)) n (record n { queue = left_by n.queue es })
taken-back [] n is rest turn = LeadsBack-none Finds AreParts put_back n
taken-back (e ∷ es) n is rest turn =
    let q = n.queue in
    let m : Node = record n { queue = gone q e } in
    let former : FindsFormer (OfQueue (taking e)) n = (first_found q is.queue e (es ++ rest) (sym turn), taking-stays e) in
    let both = edit-both_ways (OfQueue (taking e)) in
    let one = LeadsBack-one Finds AreParts put_back (OfQueue (taking e)) n (redone (OfQueue (taking e)) n) (both.redone_finds n former) is
    (both.put_back_redone n former) in
    let later = taken-back es m (gone-node n e is) rest (sym (front_gone q is.queue e (es ++ rest) (sym turn))) in
    LeadsBack-append Finds AreParts put_back (OfQueue (taking e) ∷ []) (of_queue (map taking es)) n m (record n { queue = left_by (gone q e) es })
    (subst (λ (p : Queue). LeadsBack Finds AreParts put_back (OfQueue (taking e) ∷ []) n (record n { queue = p })) (redone_gone q e) one)
    later

pub left-next : (es : List Entry) (q : Queue) → (left_by q es).next ≡ q.next
left-next [] q = refl
left-next (e ∷ es) q = left-next es (gone q e) ∙ next_stays q e

left-total : (n : Node) (q : Queue) → q.next ≡ n.queue.next → total (record n { queue = q }) ≡ total n
unfolding total
left-total n q same = ap (λ
    (k : ℕ). n.next_id + k + n.counters.passed + n.counters.blocked + n.counters.freed + n.counters.lost + n.counters.bad +
    n.counters.stale + n.counters.broken) same

-- the entries of a node's next frame
abbrev pub frame_entries : Node → List Entry
frame_entries n = next_frame n.queue n.limits.mtu

-- the entries were taken out
pub taken-makes : (n m : Node) (taken : List QueueEdit) → AreParts n → m ≡ taken_from n → taken ≡ map taking (frame_entries n) → Makes (of_queue taken) n m
taken-makes n m taken is left edits =
    let es = frame_entries n in
    let begins = frame_begins n.queue n.limits.mtu in
    let leads = taken-back es n is begins.rest begins.is in
    let here = subst (λ (k : Node). LeadsBack Finds AreParts put_back (of_queue (map taking es)) n k) (sym left) leads in
    let sum = ap total left ∙ left-total n (left_by n.queue es) (left-next es n.queue) in
    record {
      leads_back = subst (λ (t : List QueueEdit). LeadsBack Finds AreParts put_back (of_queue t) n m) (sym edits) here;
      counted = omega (arith, sum);
    }
