use Rattle.std.proofs.Common.{ap, sym, subst}
use Rattle.pfl_queue.specs.Queues.{Queue}
use Rattle.pfl_desk.specs.Edits.{NextStays}
use Rattle.pfl_desk.proofs.Listing.{status-node, makes_queue}
use Rattle.pfl_desk.proofs.parts.Parts.list_status.Goals as goal

pub invariant_of-self-2 : goal.invariant_of-self-2
invariant_of-self-2 g c = (c.self.invariant.0, rw c.in-Ok.ensures.listed (status-node _ c.args.status c.self.invariant.1 c.in-Ok.ensures.no_fault))

pub returns-clause-makes : goal.returns-clause-makes
returns-clause-makes g c =
    let stays = subst NextStays (sym c.in-Ok.ensures.edit) tt in
    let next = ap (λ (q : Queue). q.next) c.in-Ok.ensures.listed in
    rw (← c.self.view_is) (makes_queue _ c.in-Ok.edit c.status.new.self c.self.invariant.1 c.in-Ok.ensures.leads_back stays next)
