use Rattle.pfl_laws.proofs.Running.{apart-step, apart-along}
use Rattle.pfl_laws.proofs.laws.states_stay_apart.Goals as goal

pub returns-clause-event : goal.returns-clause-event
returns-clause-event c = apart-step

pub returns-clause-along : goal.returns-clause-along
returns-clause-along c = apart-along
