use Rattle.pfl_node.proofs.OneState.{taken-apart, handled-apart}
use Rattle.pfl_node.proofs.laws.one_state_per_key.Goals as goal

pub returns-clause-records : goal.returns-clause-records
returns-clause-records c = taken-apart

pub returns-clause-packets : goal.returns-clause-packets
returns-clause-packets c = handled-apart
