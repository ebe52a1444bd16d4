use Rattle.std.proofs.Common.{ℕ, ◌+◌, Some, sym, ap, subst}
use Rattle.pfl_queue.specs.Queues.{Queue, IsQueue}
use Rattle.pfl_queue.specs.Edits.{with_mark}
use Rattle.pfl_queue.proofs.Keeping.{marked_kept}
use Rattle.pfl_queue.proofs.queues.Pending.put.Goals as goal

pub make-requires-clause-allowed : goal.make-requires-clause-allowed
make-requires-clause-allowed g c =
    let is = subst IsQueue c.self.view_is c.self.invariant.queue in
    subst (λ (n : ℕ). IsQueue (with_mark c.args.self.now c.args.name (Some (record { kind = c.args.kind; number = n; name = c.args.name })) (n + 1)))
    (sym (ap (λ (q : Queue). q.next) c.self.view_is))
    (marked_kept c.args.self.now is c.args.name c.args.kind c.requires.room c.requires.countable)
