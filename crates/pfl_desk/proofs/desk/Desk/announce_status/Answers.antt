use Rattle.pfl_desk.proofs.Recording.{writes-then}
use Rattle.pfl_desk.proofs.desk.Desk.announce_status.Goals as goal

pub returns-clause-writes : goal.returns-clause-writes
returns-clause-writes g c = writes-then 1 1 _ _ _ c.list_status.ensures.writes c.push_if.ensures.writes
