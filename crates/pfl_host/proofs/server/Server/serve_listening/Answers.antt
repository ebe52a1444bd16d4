use Rattle.pfl_host.proofs.Printing.{notes_all}
use Rattle.pfl_host.proofs.server.Server.serve_listening.Goals as goal

-- all that were turned away were reported
pub returns-in-Ok-clause-noted : goal.returns-in-Ok-clause-noted
returns-in-Ok-clause-noted g c = rw c.serve_connections.ensures.turned (notes_all _ _ _ _ _ _ c.requires.open.2 c.await_sessions.ensures.noted)

pub returns-in-Err-clause-noted : goal.returns-in-Err-clause-noted
returns-in-Err-clause-noted g c = notes_all _ _ _ _ _ _ c.requires.open.2 c.await_sessions.ensures.noted
