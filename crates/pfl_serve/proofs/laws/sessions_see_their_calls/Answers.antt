use Rattle.pfl_serve.proofs.Told.{sessions-are-sent, sessions-are-sent-all, runs-are-one}
use Rattle.pfl_serve.proofs.laws.sessions_see_their_calls.Goals as goal

pub returns-clause-since : goal.returns-clause-since
returns-clause-since g c = sessions-are-sent

pub returns-clause-all : goal.returns-clause-all
returns-clause-all g c = sessions-are-sent-all

pub returns-clause-runs : goal.returns-clause-runs
returns-clause-runs g c = runs-are-one
