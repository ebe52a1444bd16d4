use Rattle.std.proofs.Common.{refl, sym, subst}
use Rattle.pfl_desk.specs.declared.edit.NodeEdit.TheVariants.{Server}
use Rattle.pfl_desk.specs.Nodes.{Node, ServesSince}
use Rattle.pfl_desk.proofs.Keeps.{keeps_server}
use Rattle.pfl_desk.proofs.Recording.{makes}
use Rattle.pfl_desk.proofs.parts.Parts.set_server.Goals as goal

pub invariant_of-self : goal.invariant_of-self
invariant_of-self g c =
    let past = subst (λ (m : Node). ServesSince m c.args.server) (sym c.self.view_is) c.requires.past in
    (c.self.invariant.0, keeps_server _ c.args.server c.self.invariant.1 past)

pub returns-clause-makes : goal.returns-clause-makes
returns-clause-makes g c = rw (← c.self.view_is) (makes _ (Server c.self.inside.server c.args.server) c.self.invariant.1 refl tt)
