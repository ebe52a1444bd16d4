use Rattle.pfl_timeline.proofs.Keeping.{commands-keep, branches-show}
use Rattle.pfl_timeline.proofs.laws.commands_keep_timelines.Goals as goal

pub returns-clause-kept : goal.returns-clause-kept
returns-clause-kept c = commands-keep

pub returns-clause-shown : goal.returns-clause-shown
returns-clause-shown c = branches-show
