use Rattle.std.proofs.Common.{arith}
use Rattle.pfl_queue.proofs.Keeping.{empty_kept}
use Rattle.pfl_queue.proofs.queues.Pending.new_at.Goals as goal

pub invariant_of-result : goal.invariant_of-result
invariant_of-result g c = rw
    (c.in_ok-new.ensures.empty, c.in_ok-new-2.ensures.empty, c.in_ok-with_capacity.ensures.items, c.in_ok-with_capacity-2.ensures.items) (record {
      marks_room = c.in_ok-new.ensures.limit;
      requests_room = c.in_ok-new-2.ensures.limit;
      statuses_room = c.in_ok-with_capacity.ensures.capacity;
      clears_room = c.in_ok-with_capacity-2.ensures.capacity;
      queue = empty_kept c.args.limit c.args.next (omega (arith, c.ranges.next.fits));
    })
