use Rattle.std.proofs.Common.{arith}
use Rattle.pfl_queue.specs.Edits.{taking}
use Rattle.pfl_queue.proofs.Taken.{edits_next}
use Rattle.pfl_queue.proofs.frames.record.Goals as goal

pub loop-entry-preserved : goal.loop-entry-preserved
loop-entry-preserved g c =
    let loop = c.loop-entry.invariant in
    record {
      edits = edits_next taking _ c.args.entries.now c.loop-entry.entry-index _ c.loop-entry-test.true _ _ loop.edits _
          c.taking-edit.ensures.edit c.push.ensures.list;
      room = omega (arith, loop.room, c.push.ensures.spare);
    }
