use Rattle.pfl_track.proofs.RuleAlong.{lowers-none-along}
use Rattle.pfl_track.proofs.RuleRising.{lowers-none}
use Rattle.pfl_track.proofs.rule_laws.levels_never_fall_by.Goals as goal

pub returns-clause-packet : goal.returns-clause-packet
returns-clause-packet c = lowers-none

pub returns-clause-along : goal.returns-clause-along
returns-clause-along c = lowers-none-along
