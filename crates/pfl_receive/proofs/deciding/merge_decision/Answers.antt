use Rattle.pfl_receive.proofs.Merging.{merge-may}
use Rattle.pfl_receive.proofs.deciding.merge_decision.Goals as goal

pub returns-clause-may : goal.returns-clause-may
returns-clause-may g c = merge-may c.args.parts.now c.kernel.result c.args.state.now _ c.args.received.now _ _ c.requires.parts c.requires.stands
    c.merge.ensures.merged c.clock.ensures.clock c.merge.ensures.keeps c.merge.ensures.state
