use Rattle.std.proofs.Common.{◌≡◌}
use Rattle.test_publish.proofs.publish.read_all.Given as goal

abbrev pub invariant-loop : goal.invariant-loop
invariant-loop l = l.viewer.table ≡ l.initial.viewer.table
