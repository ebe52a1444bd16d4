use Rattle.pfl_desk.proofs.Recording.{countable, draft-one, writes-one}
use Rattle.pfl_desk.proofs.desk.Desk.count.Goals as goal

pub count-edit-requires : goal.count-edit-requires
count-edit-requires g c = record { countable = countable _ c.self.invariant }

pub invariant_of-self : goal.invariant_of-self
invariant_of-self g c = draft-one _ _ _ _ _ c.self.invariant c.count-edit.ensures.makes c.push.ensures.list c.push.ensures.spare

pub returns-clause-writes : goal.returns-clause-writes
returns-clause-writes g c = rw (← c.self.view_is) (writes-one _ _ _ _ _ c.self.invariant c.count-edit.ensures.makes c.push.ensures.list c.push.ensures.spare)
