use Rattle.std.proofs.Common.{length, sym, ◌∙◌, ap, subst}
use Rattle.pfl_queue.specs.Queues.{Queue, IsQueue}
use Rattle.pfl_queue.proofs.Keeping.{request_put}
use Rattle.pfl_queue.proofs.queues.Pending.request.Goals as goal

pub make-requires-clause-allowed : goal.make-requires-clause-allowed
make-requires-clause-allowed g c =
    let is = subst IsQueue c.self.view_is c.self.invariant.queue in
    request_put c.args.self.now is (sym c.list_fault.ensures.fault ∙ c.in_default.is) c.args.name
    (sym c.if-is_requested.ensures.requested) _ (c.len.ensures.many ∙ ap (λ (q : Queue). length q.requests) c.self.view_is)
