use Rattle.std.proofs.Common.{Option, subst}
use Rattle.pfl_desk.specs.declared.edit.NodeEdit.{NodeEdit}
use Rattle.pfl_desk.specs.inner.Drafting.{MakesIf}
use Rattle.pfl_desk.proofs.Recording.{draft-one, writes-one}
use Rattle.pfl_desk.proofs.desk.Desk.let_go.Goals as goal

pub invariant_of-self : goal.invariant_of-self
invariant_of-self g c =
    let made = subst (λ (o : Option NodeEdit). MakesIf o c.self.inside.parts c.let_go.new.self) c.in-Some.is c.let_go.ensures.makes in
    draft-one _ _ _ _ _ c.self.invariant made c.push.ensures.list c.push.ensures.spare

pub returns-in-Some-clause-writes : goal.returns-in-Some-clause-writes
returns-in-Some-clause-writes g c =
    let made = subst (λ (o : Option NodeEdit). MakesIf o c.self.inside.parts c.let_go.new.self) c.in-Some.is c.let_go.ensures.makes in
    rw (← c.self.view_is) (writes-one _ _ _ _ _ c.self.invariant made c.push.ensures.list c.push.ensures.spare)
