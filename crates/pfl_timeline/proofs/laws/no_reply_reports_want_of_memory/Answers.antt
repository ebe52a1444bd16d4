use Rattle.pfl_timeline.proofs.Wants.{no_reply-tells}
use Rattle.pfl_timeline.proofs.laws.no_reply_reports_want_of_memory.Goals as goal

pub returns : goal.returns
returns c = no_reply-tells
