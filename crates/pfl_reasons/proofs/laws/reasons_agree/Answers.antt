use Rattle.pfl_reasons.proofs.Agreeing.{events-agree}
use Rattle.pfl_reasons.proofs.laws.reasons_agree.Goals as goal

pub returns : goal.returns
returns c = events-agree c.judgements_agree.ensures.outcome
