use Rattle.std.proofs.Common.{◌≡◌, ◌+◌, take, map}
use Rattle.pfl_base.specs.Lists.{last_of}
use Rattle.pfl_queue.specs.Taking.{entry_action}
use Rattle.pfl_queue.specs.inner.Fitting.{entry_bytes}
use Rattle.pfl_queue.proofs.frames.fitting.Given as goal

abbrev pub invariant-loop-i : goal.invariant-loop-i
invariant-loop-i l = record {
  left : l.left + entry_bytes (take l.i l.entries) ≡ l.mtu;
  before : l.before ≡ last_of (map entry_action (take l.i l.entries));
}
