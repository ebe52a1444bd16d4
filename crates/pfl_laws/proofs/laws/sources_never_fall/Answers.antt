use Rattle.pfl_laws.proofs.Running.{sources-step, sources-along}
use Rattle.pfl_laws.proofs.Records.{sources-record, only-so-record}
use Rattle.pfl_laws.proofs.laws.sources_never_fall.Goals as goal

pub returns-clause-event : goal.returns-clause-event
returns-clause-event c = sources-step

pub returns-clause-taken : goal.returns-clause-taken
returns-clause-taken c = sources-record

pub returns-clause-falls : goal.returns-clause-falls
returns-clause-falls c = only-so-record

pub returns-clause-along : goal.returns-clause-along
returns-clause-along c = sources-along
