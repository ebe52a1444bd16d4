use Rattle.pfl_laws.proofs.Running.{levels-step, levels-along}
use Rattle.pfl_laws.proofs.Records.{levels-record}
use Rattle.pfl_laws.proofs.laws.levels_never_fall.Goals as goal

pub returns-clause-event : goal.returns-clause-event
returns-clause-event c = levels-step

pub returns-clause-taken : goal.returns-clause-taken
returns-clause-taken c = levels-record

pub returns-clause-along : goal.returns-clause-along
returns-clause-along c = levels-along
