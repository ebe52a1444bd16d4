use Rattle.std.proofs.Common.{◌+◌, ◌*◌, ◌-◌, ◌≤◌, length}
use Rattle.pfl_publish.specs.Seats.{SeesOn}
use Rattle.pfl_publish.proofs.Tries.{LoadsOvertaken}
use Rattle.pfl_publish.proofs.publisher.Publisher.read.Given as goal

abbrev pub invariant-loop-tried : goal.invariant-loop-tried
invariant-loop-tried g l = record {
  seen : SeesOn l.initial.viewer l.viewer;
  tries : length l.initial.viewer.seen + 3 * (l._tried - 1) ≤ length l.viewer.seen;
  within : l._tried - 1 ≤ l.fn.tries - 1;
  loads : LoadsOvertaken (l._tried - 1) l.initial.viewer.loads l.viewer.loads;
}
