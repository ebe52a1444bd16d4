use Rattle.pfl_desk.proofs.Recording.{draft-one, writes-one}
use Rattle.pfl_desk.proofs.desk.Desk.add_state.Goals as goal

pub invariant_of-self : goal.invariant_of-self
invariant_of-self g c = draft-one _ _ _ _ _ c.self.invariant c.add_state-edit.ensures.makes c.push.ensures.list c.push.ensures.spare

pub returns-clause-writes : goal.returns-clause-writes
returns-clause-writes g c =
    rw (← c.self.view_is) (writes-one _ _ _ _ _ c.self.invariant c.add_state-edit.ensures.makes c.push.ensures.list c.push.ensures.spare)
