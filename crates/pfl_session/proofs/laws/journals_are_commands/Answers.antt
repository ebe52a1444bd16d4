use Rattle.pfl_session.proofs.Shown.{journals-are, branches-show}
use Rattle.pfl_session.proofs.laws.journals_are_commands.Goals as goal

pub returns-clause-replay : goal.returns-clause-replay
returns-clause-replay g c = journals-are

pub returns-clause-shown : goal.returns-clause-shown
returns-clause-shown g c = branches-show
