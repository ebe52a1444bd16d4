use Rattle.pfl_wire.proofs.Laws.{group_ok}
use Rattle.pfl_wire.proofs.write_frame.put_group.Goals as goal

pub returns-clause-is : goal.returns-clause-is
returns-clause-is g c = group_ok c.put_records.result c.args.group.now c.requires c.put_records.ensures.fit
