use Rattle.std.proofs.Common.{sym, ◌∙◌, ap, subst}
use Rattle.pfl_edits.specs.Maps as maps
use Rattle.pfl_queue.specs.Queues.{Queue, IsQueue}
use Rattle.pfl_queue.proofs.Keeping.{unmarked_kept, unmarked_absent}
use Rattle.pfl_queue.proofs.queues.Pending.unmark.Goals as goal

pub returns-in_err-mark-clause-unmarked : goal.returns-in_err-mark-clause-unmarked
returns-in_err-mark-clause-unmarked g c =
    unmarked_absent c.args.self.now c.args.name (ap (λ (q : Queue). maps.get q.marks c.args.name) (sym c.self.view_is)
    ∙ (sym c.get.ensures.found ∙ c.in_err-mark.was))

pub make-requires-clause-allowed : goal.make-requires-clause-allowed
make-requires-clause-allowed g c =
    unmarked_kept c.args.self.now (subst IsQueue c.self.view_is c.self.invariant.queue) c.args.name
