use Rattle.pfl_node.proofs.Keeping.{records-leave}
use Rattle.pfl_node.proofs.laws.records_leave_the_rest.Goals as goal

pub returns : goal.returns
returns c = records-leave
