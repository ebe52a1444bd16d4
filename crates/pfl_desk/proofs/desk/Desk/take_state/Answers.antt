use Rattle.pfl_desk.proofs.Recording.{draft-if, writes-if}
use Rattle.pfl_desk.proofs.desk.Desk.take_state.Goals as goal

pub invariant_of-self : goal.invariant_of-self
invariant_of-self g c = draft-if _ _ _ _ _ c.self.invariant c.take_state-edit.ensures.makes c.record_if.ensures

pub returns-clause-writes : goal.returns-clause-writes
returns-clause-writes g c = rw (← c.self.view_is) (writes-if _ _ _ _ _ c.self.invariant c.take_state-edit.ensures.makes c.record_if.ensures)
