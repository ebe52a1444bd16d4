use Rattle.std.proofs.Common.{◌+◌, ap, refl, arith}
use Rattle.pfl_desk.specs.declared.edit.NodeEdit.TheVariants.{NextId}
use Rattle.pfl_desk.specs.Nodes.{Node}
use Rattle.pfl_desk.proofs.Keeps.{keeps_next_id}
use Rattle.pfl_desk.proofs.Recording.{makes, total-least}
use Rattle.pfl_desk.proofs.parts.Parts.use_id.Goals as goal

pub overflow_add-after : goal.overflow_add-after
overflow_add-after g c =
    let least = (total-least c.args.self.now).0 in
    let same = ap (λ (m : Node). m.next_id) c.self.view_is in
    omega (arith, least, same, c.requires.countable)

pub invariant_of-self : goal.invariant_of-self
invariant_of-self g c = (c.self.invariant.0, keeps_next_id _ (c.self.inside.next_id + 1) c.self.invariant.1 (omega arith))

pub returns-clause-makes : goal.returns-clause-makes
returns-clause-makes g c =
    rw (← c.self.view_is) (makes _ (NextId c.self.inside.next_id (c.self.inside.next_id + 1)) c.self.invariant.1 (refl, λ h. omega arith) (omega arith))
