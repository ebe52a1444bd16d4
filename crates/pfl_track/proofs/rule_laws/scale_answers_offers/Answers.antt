use Rattle.pfl_track.proofs.Offers.{answers-offers, units-cover}
use Rattle.pfl_track.proofs.rule_laws.scale_answers_offers.Goals as goal

pub returns-clause-answers : goal.returns-clause-answers
returns-clause-answers c = answers-offers

pub returns-clause-units : goal.returns-clause-units
returns-clause-units c = units-cover
