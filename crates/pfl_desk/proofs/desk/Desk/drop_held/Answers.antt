use Rattle.pfl_desk.proofs.Recording.{writes-then}
use Rattle.pfl_desk.proofs.desk.Desk.drop_held.Goals as goal

pub returns-then-let_go-clause-writes : goal.returns-then-let_go-clause-writes
returns-then-let_go-clause-writes g c = writes-then 1 1 _ _ _ c.let_go.ensures.writes c.count.ensures.writes
