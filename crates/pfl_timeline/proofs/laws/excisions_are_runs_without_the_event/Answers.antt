use Rattle.pfl_timeline.proofs.Excised.{excisions-are-runs, excisions-leave-standing, excisions-tell-refused, nothing-else-falls, restorations-take-back}
use Rattle.pfl_timeline.proofs.laws.excisions_are_runs_without_the_event.Goals as goal

pub returns-clause-runs : goal.returns-clause-runs
returns-clause-runs c = excisions-are-runs

pub returns-clause-standing : goal.returns-clause-standing
returns-clause-standing c = excisions-leave-standing

pub returns-clause-told : goal.returns-clause-told
returns-clause-told c = excisions-tell-refused

pub returns-clause-alone : goal.returns-clause-alone
returns-clause-alone c = nothing-else-falls

pub returns-clause-restored : goal.returns-clause-restored
returns-clause-restored c = restorations-take-back
