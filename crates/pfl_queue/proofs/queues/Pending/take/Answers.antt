use Rattle.std.proofs.Common.{◌∙◌}
use Rattle.pfl_queue.specs.declared.Entry.TheVariants.{Request}
use Rattle.pfl_queue.proofs.Fronts.{without_first}
use Rattle.pfl_queue.proofs.Keeping.{gone_kept, unmarked_kept}
use Rattle.pfl_queue.proofs.queues.Pending.take.Goals as goal

pub invariant_of-self : goal.invariant_of-self
invariant_of-self g c = rw c.remove.ensures.marks (record {
  marks_room = c.remove.ensures.limit ∙ c.self.invariant.marks_room;
  requests_room = c.self.invariant.requests_room;
  statuses_room = c.self.invariant.statuses_room;
  clears_room = c.self.invariant.clears_room;
  queue = unmarked_kept _ c.self.invariant.queue c.in-Marked.name;
})

pub invariant_of-self-in-Request : goal.invariant_of-self-in-Request
invariant_of-self-in-Request g c = rw (c.remove-in-Request.ensures.listed, without_first c.self.inside.requests.listed) (record {
  marks_room = c.self.invariant.marks_room;
  requests_room = c.remove-in-Request.ensures.limit ∙ c.self.invariant.requests_room;
  statuses_room = c.self.invariant.statuses_room;
  clears_room = c.self.invariant.clears_room;
  queue = gone_kept _ c.self.invariant.queue (Request c.in-Request.field-0);
})
