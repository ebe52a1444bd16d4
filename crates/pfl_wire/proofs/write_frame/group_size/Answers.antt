use Rattle.pfl_wire.specs.Frames.{RuleFits}
use Rattle.pfl_wire.proofs.Laws.{group_size_is}
use Rattle.pfl_wire.proofs.write_frame.group_size.Goals as goal

pub returns-clause-size : goal.returns-clause-size
returns-clause-size c =
    group_size_is RuleFits c.args.group.now c.in-Some.first.now c.action.result c.record_len.result c.requires c.in-Some.ensures.value
    c.action.ensures c.record_len.ensures.len
