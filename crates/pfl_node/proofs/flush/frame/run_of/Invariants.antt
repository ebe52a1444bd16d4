use Rattle.std.proofs.Common.{◌≡◌, ◌+◌, drop}
use Rattle.pfl_node.specs.inner.Sending.{run_of}
use Rattle.pfl_node.proofs.flush.frame.run_of.Given as goal

abbrev pub invariant-loop-i : goal.invariant-loop-i
invariant-loop-i l = run_of l.action l.entries ≡ l.i + run_of l.action (drop l.i l.entries)
