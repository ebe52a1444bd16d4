use Rattle.std.proofs.Common.{◌∙◌, [], ◌∷◌, Option, IfSome, ap, sym, subst}
use Rattle.pfl_queue.specs.declared.edits.QueueEdit.{QueueEdit}
use Rattle.pfl_queue.specs.Edits.{QueueLeadsBack, requesting}
use Rattle.pfl_queue.specs.Queues.{Queue, is_requested}
use Rattle.pfl_desk.specs.Edits.{NextStays}
use Rattle.pfl_desk.proofs.Listing.{request-node, request-next, new-request, makes_queue}
use Rattle.pfl_desk.proofs.parts.Parts.list_request.Goals as goal

pub invariant_of-self-in_default-edit : goal.invariant_of-self-in_default-edit
invariant_of-self-in_default-edit g c =
    (c.self.invariant.0, rw c.in-Ok.ensures.requested (request-node _ c.args.name c.self.invariant.1 c.in-Ok.ensures.no_fault))

pub invariant_of-self-2 : goal.invariant_of-self-2
invariant_of-self-2 g c = (c.self.invariant.0, rw c.in-Ok.ensures.requested (request-node _ c.args.name c.self.invariant.1 c.in-Ok.ensures.no_fault))

pub returns-clause-makes : goal.returns-clause-makes
returns-clause-makes g c =
    let q = c.self.inside.queue in
    let new = new-request (is_requested q c.args.name) c.in-Ok.edit c.in-Some.edit (requesting q c.args.name) c.in-Ok.ensures.edit c.in-Some.is in
    let stays = subst NextStays (sym new.1) tt in
    let next = ap (λ (r : Queue). r.next) c.in-Ok.ensures.requested ∙ request-next q c.args.name new.0 in
    let back = subst (λ (o : Option QueueEdit). IfSome o (λ e. QueueLeadsBack (e ∷ []) q c.request.new.self)) c.in-Some.is c.in-Ok.ensures.leads_back in
    rw (← c.self.view_is) (makes_queue _ c.in-Some.edit c.request.new.self c.self.invariant.1 back stays next)
