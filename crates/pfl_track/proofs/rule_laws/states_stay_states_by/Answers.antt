use Rattle.pfl_track.proofs.RuleAlong.{stays-state-along}
use Rattle.pfl_track.proofs.RuleRising.{stays-state}
use Rattle.pfl_track.proofs.rule_laws.states_stay_states_by.Goals as goal

pub returns-clause-moved : goal.returns-clause-moved
returns-clause-moved c = stays-state

pub returns-clause-along : goal.returns-clause-along
returns-clause-along c = stays-state-along
