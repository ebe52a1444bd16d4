use Rattle.pfl_track.proofs.RuleAlong.{only-motion}
use Rattle.pfl_track.proofs.RuleMoving.{all-renew, ends-move}
use Rattle.pfl_track.proofs.rule_laws.only_ends_move_by.Goals as goal

pub returns-clause-packet : goal.returns-clause-packet
returns-clause-packet c = ends-move

pub returns-clause-renewed : goal.returns-clause-renewed
returns-clause-renewed c = all-renew

pub returns-clause-along : goal.returns-clause-along
returns-clause-along c = only-motion
