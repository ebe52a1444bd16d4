use Rattle.pfl_queue.proofs.queues.Pending.copy.Goals as goal

pub invariant_of-result : goal.invariant_of-result
invariant_of-result g c = rw
    (c.in_ok-copy.ensures.same, c.in_ok-copy-2.ensures.same, c.in_ok-statuses.ensures.entries, c.in_ok-clears.ensures.entries) (record {
      marks_room = c.self.invariant.marks_room;
      requests_room = c.self.invariant.requests_room;
      statuses_room = c.in_ok-statuses.ensures.room;
      clears_room = c.in_ok-clears.ensures.room;
      queue = c.self.invariant.queue;
    })

pub returns : goal.returns
returns g c = record {
  same = rw
      (c.in_ok-copy.ensures.same, c.in_ok-copy-2.ensures.same, c.in_ok-statuses.ensures.entries, c.in_ok-clears.ensures.entries) c.self.view_is;
}
