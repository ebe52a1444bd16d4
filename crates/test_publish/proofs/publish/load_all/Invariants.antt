use Rattle.std.proofs.Common.{◌≡◌, length, true}
use Rattle.test_publish.proofs.publish.load_all.Given as goal

abbrev pub invariant-loop-i : goal.invariant-loop-i
invariant-loop-i l = (l.viewer.table ≡ l.initial.viewer.table) × (l.viewer.trying ≡ true) × (length l.viewer.held ≡ l.i)
