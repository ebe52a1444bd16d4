use Rattle.pfl_track.proofs.Along.{states-along}
use Rattle.pfl_track.proofs.Keeping.{start-is, tracked-is}
use Rattle.pfl_track.proofs.laws.states_stay_states.Goals as goal

pub returns-clause-begun : goal.returns-clause-begun
returns-clause-begun c = start-is

pub returns-clause-moved : goal.returns-clause-moved
returns-clause-moved c = tracked-is

pub returns-clause-along : goal.returns-clause-along
returns-clause-along c = states-along
