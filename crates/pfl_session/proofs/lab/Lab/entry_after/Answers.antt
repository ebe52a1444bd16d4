use Rattle.std.proofs.Common.{ap, sym, ◌∙◌}
use Rattle.pfl_session.specs.Made.{made_after}
use Rattle.pfl_session.proofs.Asked.{met-journal, met-length, met-others, met-counted, met-seen}
use Rattle.pfl_session.proofs.lab.Lab.entry_after.Goals as goal

pub returns-clause-journal : goal.returns-clause-journal
returns-clause-journal g c = met-journal _ _ _ _ _ _ c.entry_after.ensures.met

pub returns-clause-others : goal.returns-clause-others
returns-clause-others g c = met-others _ _ _ _ _ _ c.entry_after.ensures.met

pub returns-clause-counted : goal.returns-clause-counted
returns-clause-counted g c = met-counted _ _ _ _ _ _ c.entry_after.ensures.met

pub returns-clause-made : goal.returns-clause-made
returns-clause-made g c = c.entry_after.ensures.made ∙ ap (made_after c.args.from) (sym (met-seen _ _ _ _ _ _ c.entry_after.ensures.met))

pub returns-clause-entries : goal.returns-clause-entries
returns-clause-entries g c = c.entry_after.ensures.entries ∙ sym (met-length _ _ _ _ _ _ c.entry_after.ensures.met)
