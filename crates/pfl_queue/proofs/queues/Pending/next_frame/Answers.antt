use Rattle.std.proofs.Common.{List, ◌++◌, map, length, sym, ◌∙◌, ap, subst}
use Rattle.std.proofs.lemmas.List.{length-map}
use Rattle.pfl_queue.specs.declared.edits.QueueEdit.{QueueEdit}
use Rattle.pfl_queue.specs.Edits.{QueueLeadsBack, taking}
use Rattle.pfl_queue.specs.Taking.{left_by}
use Rattle.pfl_queue.proofs.Taken.{first_taken, taken_leads_back}
use Rattle.pfl_queue.proofs.queues.Pending.next_frame.Goals as goal

pub returns-clause-left : goal.returns-clause-left
returns-clause-left g c =
    c.take_out.ensures.left ∙ ap (left_by c.args.self.now) (c.deref-2.ensures.value ∙ c.in_ok-entries.ensures.frame)

pub returns-clause-edits : goal.returns-clause-edits
returns-clause-edits g c =
    let none = c.in_ok-reserve.ensures.list ∙ c.new-change.ensures.list in
    c.record.ensures.edits ∙ (ap (λ (xs : List QueueEdit). xs ++ map taking c.deref.result.now) none
    ∙ (ap (map taking) c.deref.ensures.value ∙ ap (map taking) c.in_ok-entries.ensures.frame))

pub returns-clause-one_each : goal.returns-clause-one_each
returns-clause-one_each g c =
    let edits = c.record.ensures.edits
    ∙ (ap (λ (es : List QueueEdit). es ++ map taking c.deref.result.now) (c.in_ok-reserve.ensures.list ∙ c.new-change.ensures.list)
    ∙ ap (map taking) c.deref.ensures.value) in
    ap length edits ∙ (length-map c.in_ok-entries.entries.items taking ∙ ap length c.in_ok-entries.ensures.frame)

pub returns-clause-leads_back : goal.returns-clause-leads_back
returns-clause-leads_back g c =
    let q = c.args.self.now in
    let es = c.in_ok-entries.entries.items in
    let first = first_taken q c.args.mtu _ c.in_ok-entries.ensures.frame in
    let left = c.take_out.ensures.left ∙ ap (left_by q) c.deref-2.ensures.value in
    let none = c.in_ok-reserve.ensures.list ∙ c.new-change.ensures.list in
    let edits =
    c.record.ensures.edits ∙ (ap (λ (xs : List QueueEdit). xs ++ map taking c.deref.result.now) none ∙ ap (map taking) c.deref.ensures.value) in
    subst (λ (xs : List QueueEdit). QueueLeadsBack xs q c.take_out.new.self) (sym edits)
    (subst (QueueLeadsBack (map taking es) q) (sym left) (taken_leads_back q c.known.ensures.queue es first))
