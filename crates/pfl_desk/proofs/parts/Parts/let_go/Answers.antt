use Rattle.pfl_desk.proofs.Recording.{makes_held, without_held-node}
use Rattle.pfl_desk.proofs.parts.Parts.let_go.Goals as goal

pub invariant_of-self-2 : goal.invariant_of-self-2
invariant_of-self-2 g c = (c.self.invariant.0, rw c.release.ensures.deferrals (without_held-node _ c.args.name c.self.invariant.1))

pub returns-clause-makes : goal.returns-clause-makes
returns-clause-makes g c = rw (← c.self.view_is) (makes_held _ c.in_ok-edit.edit c.release.new.self c.self.invariant.1 c.in_ok-edit.ensures.leads_back)
