use Rattle.pfl_track.proofs.Along.{ends-along}
use Rattle.pfl_track.proofs.Moving.{tracked-used}
use Rattle.pfl_track.proofs.laws.only_ends_move.Goals as goal

pub returns-clause-packet : goal.returns-clause-packet
returns-clause-packet c = tracked-used

pub returns-clause-along : goal.returns-clause-along
returns-clause-along c = ends-along
