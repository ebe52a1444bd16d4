use Rattle.std.proofs.Common.{ap, refl}
use Rattle.pfl_desk.specs.declared.edit.NodeEdit.TheVariants.{OfQueue}
use Rattle.pfl_queue.specs.Edits.{unmarking}
use Rattle.pfl_desk.proofs.Deletions.{unmarked-node}
use Rattle.pfl_desk.proofs.Recording.{makes_as}
use Rattle.pfl_desk.proofs.parts.Parts.unmark.Goals as goal

pub invariant_of-self-2 : goal.invariant_of-self-2
invariant_of-self-2 g c = (c.self.invariant.0, rw c.unmark.ensures.unmarked (unmarked-node _ c.args.name c.self.invariant.1))

pub returns-clause-makes : goal.returns-clause-makes
returns-clause-makes g c =
    rw (← c.self.view_is) (rw c.unmark.ensures.unmarked
    (makes_as _ (OfQueue c.in_ok-edit.edit) (OfQueue (unmarking c.self.inside.queue c.args.name))
    (ap OfQueue c.in_ok-edit.ensures.edit) c.self.invariant.1 (refl, tt) tt))
