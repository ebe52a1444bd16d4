use Rattle.pfl_laws.proofs.Waiting.{tied-record}
use Rattle.pfl_laws.proofs.Sound.{tied-opening, tied-later_opening, tied-step, tied-along}
use Rattle.pfl_laws.proofs.laws.held_packets_have_waiting_states.Goals as goal

pub returns-clause-opening : goal.returns-clause-opening
returns-clause-opening c = tied-opening

pub returns-clause-later_opening : goal.returns-clause-later_opening
returns-clause-later_opening c = tied-later_opening

pub returns-clause-event : goal.returns-clause-event
returns-clause-event c = tied-step

pub returns-clause-taken : goal.returns-clause-taken
returns-clause-taken c = tied-record

pub returns-clause-along : goal.returns-clause-along
returns-clause-along c = tied-along
