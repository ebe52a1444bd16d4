use Rattle.pfl_reasons.proofs.Counted.{counted}
use Rattle.pfl_reasons.proofs.laws.records_are_counted.Goals as goal

pub returns : goal.returns
returns c = counted
