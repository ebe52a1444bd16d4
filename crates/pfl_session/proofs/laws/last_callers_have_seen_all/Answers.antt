use Rattle.pfl_session.proofs.Shown.{last-callers-saw-all}
use Rattle.pfl_session.proofs.laws.last_callers_have_seen_all.Goals as goal

pub returns : goal.returns
returns g c = last-callers-saw-all
