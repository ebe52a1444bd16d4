use Rattle.pfl_desk.proofs.Recording.{draft-if, writes-if}
use Rattle.pfl_desk.proofs.desk.Desk.list_request.Goals as goal

pub invariant_of-self-2 : goal.invariant_of-self-2
invariant_of-self-2 g c = draft-if _ _ _ _ _ c.self.invariant c.in_ok-edit.ensures.makes c.record_if.ensures

pub returns-clause-writes : goal.returns-clause-writes
returns-clause-writes g c = rw (← c.self.view_is) (writes-if _ _ _ _ _ c.self.invariant c.in_ok-edit.ensures.makes c.record_if.ensures)
