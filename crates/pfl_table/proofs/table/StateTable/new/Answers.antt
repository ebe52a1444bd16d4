use Rattle.pfl_table.proofs.Empty.{rows-none, table-empty}
use Rattle.pfl_table.proofs.table.StateTable.new.Goals as goal

pub invariant_of-result : goal.invariant_of-result
invariant_of-result g c = table-empty _ c.in_ok-stored.ensures.empty

pub returns-clause-empty : goal.returns-clause-empty
returns-clause-empty g c = rows-none c.in_ok-stored.stored c.in_ok-stored.ensures.empty
