use Rattle.pfl_track.proofs.RuleMoving.{loose-adds, reset-refuses}
use Rattle.pfl_track.proofs.rule_laws.rules_add_and_refuse.Goals as goal

pub returns-clause-loose : goal.returns-clause-loose
returns-clause-loose c = loose-adds

pub returns-clause-reset : goal.returns-clause-reset
returns-clause-reset c = reset-refuses
