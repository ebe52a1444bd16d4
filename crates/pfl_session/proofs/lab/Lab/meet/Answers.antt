use Rattle.std.proofs.Common.{sym, ◌∙◌}
use Rattle.pfl_session.proofs.Asked.{met-journal, met-length, met-others, met-counted}
use Rattle.pfl_session.proofs.lab.Lab.meet.Goals as goal

pub returns-clause-journal : goal.returns-clause-journal
returns-clause-journal g c = met-journal _ _ _ _ _ _ c.catch_up.ensures.met

pub returns-clause-others : goal.returns-clause-others
returns-clause-others g c = met-others _ _ _ _ _ _ c.catch_up.ensures.met

pub returns-clause-counted : goal.returns-clause-counted
returns-clause-counted g c = met-counted _ _ _ _ _ _ c.catch_up.ensures.met

pub returns-clause-number : goal.returns-clause-number
returns-clause-number g c = c.catch_up.ensures.number ∙ sym (met-length _ _ _ _ _ _ c.catch_up.ensures.met)
