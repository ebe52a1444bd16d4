use Rattle.std.proofs.Common.{◌≤◌, refl, sym, subst}
use Rattle.pfl_desk.specs.declared.edit.NodeEdit.TheVariants.{Clock}
use Rattle.pfl_desk.specs.Nodes.{Node}
use Rattle.pfl_desk.proofs.Keeps.{keeps_clock}
use Rattle.pfl_desk.proofs.Recording.{makes}
use Rattle.pfl_desk.proofs.parts.Parts.set_clock.Goals as goal

pub invariant_of-self : goal.invariant_of-self
invariant_of-self g c =
    let later = subst (λ (m : Node). m.clock ≤ c.args.clock) (sym c.self.view_is) c.requires.later in
    (c.self.invariant.0, keeps_clock _ c.args.clock c.self.invariant.1 later c.requires.within)

pub returns-clause-makes : goal.returns-clause-makes
returns-clause-makes g c = rw (← c.self.view_is) (makes _ (Clock c.self.inside.clock c.args.clock) c.self.invariant.1 refl tt)
