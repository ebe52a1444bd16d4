use Rattle.pfl_queue.proofs.Marking.{marked-none}
use Rattle.pfl_queue.proofs.marked.Marks.new.Goals as goal

pub invariant_of-result : goal.invariant_of-result
invariant_of-result g c = marked-none c.args.limit _ _ _ c.if-limit-gt-MOST_SLOTS.false c.in_ok-queues.ensures.limit
    c.in_ok-queues.ensures.empty c.in_ok-names.ensures.limit c.in_ok-names.ensures.empty c.in_ok-order.ensures.limit c.in_ok-order.ensures.empty
