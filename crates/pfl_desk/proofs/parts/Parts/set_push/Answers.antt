use Rattle.pfl_desk.specs.declared.edit.NodeEdit.TheVariants.{Push}
use Rattle.std.proofs.Common.{refl}
use Rattle.pfl_desk.proofs.Keeps.{keeps_push}
use Rattle.pfl_desk.proofs.Recording.{makes}
use Rattle.pfl_desk.proofs.parts.Parts.set_push.Goals as goal

pub invariant_of-self : goal.invariant_of-self
invariant_of-self g c = (c.self.invariant.0, keeps_push _ c.args.wanted c.self.invariant.1)

pub returns-clause-makes : goal.returns-clause-makes
returns-clause-makes g c = rw (← c.self.view_is) (makes _ (Push c.self.inside.push c.args.wanted) c.self.invariant.1 refl tt)
