use Rattle.pfl_laws.proofs.Delivering.{record-stays}
use Rattle.pfl_laws.proofs.Leaving.{leaves-only}
use Rattle.pfl_laws.proofs.laws.held_packets_leave_only_so.Goals as goal

pub returns-clause-event : goal.returns-clause-event
returns-clause-event c = leaves-only

pub returns-clause-taken : goal.returns-clause-taken
returns-clause-taken c = record-stays
