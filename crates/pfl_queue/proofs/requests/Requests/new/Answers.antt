use Rattle.std.proofs.Common.{arith}
use Rattle.pfl_queue.proofs.Asking.{asked-none}
use Rattle.pfl_queue.proofs.requests.Requests.new.Goals as goal

pub invariant_of-result : goal.invariant_of-result
invariant_of-result g c = rw c.in_ok-listed.ensures.items (record {
  index = asked-none _ c.in_ok-names.ensures.empty;
  room = omega (arith, c.in_ok-names.ensures.limit, c.in_ok-listed.ensures.capacity);
})
