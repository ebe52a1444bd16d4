use Rattle.pfl_session.proofs.Shown.{revisions-show, seen-are-first}
use Rattle.pfl_session.proofs.laws.revisions_show_timelines.Goals as goal

pub returns-clause-words : goal.returns-clause-words
returns-clause-words g c = revisions-show

pub returns-clause-entries : goal.returns-clause-entries
returns-clause-entries g c = seen-are-first
