use Rattle.pfl_host.proofs.Faults.{serve_faults}
use Rattle.pfl_host.proofs.server.Server.serve_seats.Goals as goal

-- they could not be served
pub returns-in-Err-clause-fault : goal.returns-in-Err-clause-fault
returns-in-Err-clause-fault g c = rw c.lab_fault.ensures (serve_faults c.in-Err.why)
