use Rattle.std.proofs.Common.{sym, ◌∙◌}
use Rattle.pfl_queue.proofs.Marking.{len-marks}
use Rattle.pfl_queue.proofs.marked.Marks.len.Goals as goal

pub returns : goal.returns
returns g c = record {
  marks = rw (← c.self.view_is) (c.len.ensures.links
      ∙ sym (len-marks c.self.inside.queues c.self.inside.names c.self.inside.order c.self.invariant));
}
