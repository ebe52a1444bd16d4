use Rattle.pfl_laws.proofs.InFlight.{sent-only, were-sent}
use Rattle.pfl_laws.proofs.laws.frames_were_sent.Goals as goal

pub returns-clause-event : goal.returns-clause-event
returns-clause-event c = sent-only

pub returns-clause-along : goal.returns-clause-along
returns-clause-along c = were-sent
