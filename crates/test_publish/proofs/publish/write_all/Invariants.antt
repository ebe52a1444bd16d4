use Rattle.std.proofs.Common.{◌≡◌, length}
use Rattle.test_publish.proofs.publish.write_all.Given as goal

abbrev pub invariant-loop-number : goal.invariant-loop-number
invariant-loop-number l = (l.writer.table ≡ l.initial.writer.table) × (length l.writer.list ≡ l.number)
