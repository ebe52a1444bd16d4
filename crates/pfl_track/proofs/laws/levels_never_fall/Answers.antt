use Rattle.pfl_track.proofs.Along.{levels-along}
use Rattle.pfl_track.proofs.Rising.{tracked-rises}
use Rattle.pfl_track.proofs.laws.levels_never_fall.Goals as goal

pub returns-clause-packet : goal.returns-clause-packet
returns-clause-packet c = tracked-rises

pub returns-clause-along : goal.returns-clause-along
returns-clause-along c = levels-along
