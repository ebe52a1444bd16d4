use Rattle.std.proofs.Common.{◌∙◌, sym}
use Rattle.pfl_table.proofs.Putting.{table-removed}
use Rattle.pfl_table.proofs.Viewed.{get-rows_of}
use Rattle.pfl_table.proofs.stored.Stored.take.Goals as goal

pub returns-clause-former : goal.returns-clause-former
returns-clause-former g c = c.remove.ensures.former ∙ sym (get-rows_of c.args.self.now.links c.args.name)

pub returns-clause-taken : goal.returns-clause-taken
returns-clause-taken g c = table-removed c.args.self.now _ c.args.name c.remove.result c.remove.ensures.former c.remove.ensures.unchanged
    c.remove.ensures.loses c.known.ensures.filed
