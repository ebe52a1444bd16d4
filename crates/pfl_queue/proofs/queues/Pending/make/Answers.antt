use Rattle.std.proofs.Common.{[], ◌∷◌, sym, subst}
use Rattle.pfl_queue.specs.Queues.{Queue}
use Rattle.pfl_queue.specs.Edits.{QueueLeadsBack}
use Rattle.pfl_queue.proofs.Leading.{redone-leads_back}
use Rattle.pfl_queue.proofs.queues.Pending.make.Goals as goal

pub returns-clause-leads_back : goal.returns-clause-leads_back
returns-clause-leads_back g c =
    subst (λ (q : Queue). QueueLeadsBack (c.args.edit ∷ []) c.args.self.now q) (sym c.set.ensures.set)
    (redone-leads_back c.args.edit c.args.self.now c.set.ensures.queue c.requires.found)
