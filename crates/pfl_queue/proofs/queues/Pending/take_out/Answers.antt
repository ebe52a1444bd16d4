use Rattle.std.proofs.Common.{◌∙◌, ap, arith}
use Rattle.pfl_queue.specs.Taking.{left_by}
use Rattle.pfl_queue.proofs.Listed.{entries_next}
use Rattle.pfl_queue.proofs.Turned.{all_taken}
use Rattle.pfl_queue.proofs.queues.Pending.take_out.Goals as goal

pub loop-entry-preserved : goal.loop-entry-preserved
loop-entry-preserved g c = record
    { left = entries_next _ _ _ c.args.entries.now c.loop-entry.entry-index _ c.loop-entry-test.true c.loop-entry.invariant.left c.take.ensures.gone }

pub returns : goal.returns
returns g c = record {
  left = c.loop-entry.invariant.left
      ∙ ap (left_by c.args.self.now) (all_taken c.loop-entry.entry-index c.args.entries.now (omega (arith, c.loop-entry-test.false)));
}
