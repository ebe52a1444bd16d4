use Rattle.std.proofs.Common.{sym, ◌∙◌}
use Rattle.pfl_table.proofs.Tables.{len-states_of}
use Rattle.pfl_table.proofs.Viewed.{len-rows_of}
use Rattle.pfl_table.proofs.table.StateTable.len.Goals as goal

pub returns-clause-rows : goal.returns-clause-rows
returns-clause-rows g c = rw (← c.self.view_is) (c.len.ensures.rows ∙ sym (len-rows_of _ c.known.ensures.filed.rising))

pub returns-clause-states : goal.returns-clause-states
returns-clause-states g c = returns-clause-rows g c ∙ sym (len-states_of c.args.self.now)
