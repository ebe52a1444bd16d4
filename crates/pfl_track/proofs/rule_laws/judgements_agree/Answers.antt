use Rattle.pfl_track.proofs.RuleTesting.{judgements-agree, outcomes-follow}
use Rattle.pfl_track.proofs.rule_laws.judgements_agree.Goals as goal

pub returns-clause-branch : goal.returns-clause-branch
returns-clause-branch c = judgements-agree

pub returns-clause-outcome : goal.returns-clause-outcome
returns-clause-outcome c = outcomes-follow
