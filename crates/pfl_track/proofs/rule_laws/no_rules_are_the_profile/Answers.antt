use Rattle.pfl_track.proofs.RuleMoving.{profile-tracked}
use Rattle.pfl_track.proofs.RuleTesting.{profile-tests}
use Rattle.pfl_track.proofs.rule_laws.no_rules_are_the_profile.Goals as goal

pub returns-clause-moved : goal.returns-clause-moved
returns-clause-moved c = profile-tracked

pub returns-clause-tested : goal.returns-clause-tested
returns-clause-tested c = profile-tests
