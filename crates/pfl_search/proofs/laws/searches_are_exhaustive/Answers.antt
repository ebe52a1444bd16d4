use Rattle.pfl_search.proofs.Deepening.{no_visit_asked}
use Rattle.pfl_search.proofs.Leading.{none_exhaustive, runs_end, runs_lead, runs_visited, visits_of_runs, visits_ordered}
use Rattle.pfl_search.proofs.laws.searches_are_exhaustive.Goals as goal

pub returns-clause-runs : goal.returns-clause-runs
returns-clause-runs c = runs_lead

pub returns-clause-sound : goal.returns-clause-sound
returns-clause-sound c = visits_of_runs

pub returns-clause-complete : goal.returns-clause-complete
returns-clause-complete c = runs_visited

pub returns-clause-ordered : goal.returns-clause-ordered
returns-clause-ordered c = visits_ordered

pub returns-clause-none : goal.returns-clause-none
returns-clause-none c = none_exhaustive

pub returns-clause-asked : goal.returns-clause-asked
returns-clause-asked c = no_visit_asked

pub returns-clause-end : goal.returns-clause-end
returns-clause-end c = runs_end
