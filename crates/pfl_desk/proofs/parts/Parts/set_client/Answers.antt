use Rattle.std.proofs.Common.{refl, sym, subst}
use Rattle.pfl_desk.specs.declared.edit.NodeEdit.TheVariants.{Client}
use Rattle.pfl_desk.specs.Nodes.{Node, AskedAt}
use Rattle.pfl_desk.proofs.Keeps.{keeps_client}
use Rattle.pfl_desk.proofs.Recording.{makes}
use Rattle.pfl_desk.proofs.parts.Parts.set_client.Goals as goal

pub invariant_of-self : goal.invariant_of-self
invariant_of-self g c =
    let past = subst (λ (m : Node). AskedAt m c.args.client) (sym c.self.view_is) c.requires.past in
    (c.self.invariant.0, keeps_client _ c.args.client c.self.invariant.1 past)

pub returns-clause-makes : goal.returns-clause-makes
returns-clause-makes g c = rw (← c.self.view_is) (makes _ (Client c.self.inside.client c.args.client) c.self.invariant.1 refl tt)
