use Rattle.pfl_bulk.proofs.Turns.{turns_need_few_names}
use Rattle.pfl_bulk.proofs.turns_need_few_names.Goals as goal

pub returns : goal.returns
returns c = turns_need_few_names
