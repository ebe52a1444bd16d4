use Rattle.pfl_host.proofs.Printing.{notes_none}
use Rattle.pfl_host.proofs.server.Server.await_sessions.Goals as goal

-- nobody was awaited
pub returns-in-Err-clause-noted : goal.returns-in-Err-clause-noted
returns-in-Err-clause-noted g c = notes_none _ _ _
