use Rattle.pfl_desk.proofs.Recording.{countable, draft-one, writes-one}
use Rattle.pfl_desk.proofs.desk.Desk.mark.Goals as goal

pub mark-requires-clause-countable : goal.mark-requires-clause-countable
mark-requires-clause-countable g c = countable _ c.self.invariant

pub invariant_of-self-2 : goal.invariant_of-self-2
invariant_of-self-2 g c = draft-one _ _ _ _ _ c.self.invariant c.in_ok-edit.ensures.makes c.push.ensures.list c.push.ensures.spare

pub returns-clause-writes : goal.returns-clause-writes
returns-clause-writes g c = rw (← c.self.view_is) (writes-one _ _ _ _ _ c.self.invariant c.in_ok-edit.ensures.makes c.push.ensures.list c.push.ensures.spare)
