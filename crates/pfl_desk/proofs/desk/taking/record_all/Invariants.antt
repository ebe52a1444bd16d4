use Rattle.std.proofs.Common.{◌≡◌, ◌+◌, ◌++◌, length}
use Rattle.std.specs.Vec.Iter.{into_iter_items}
use Rattle.pfl_desk.specs.inner.Taking.{of_queue}
use Rattle.pfl_desk.proofs.desk.taking.record_all.Given as goal

abbrev pub invariant-loop-edit : goal.invariant-loop-edit
invariant-loop-edit g l = record {
  split : l.yielded ++ into_iter_items l.edit-iterator ≡ l.fn.taken.list;
  list : l.edits.list ≡ l.fn.edits.list ++ of_queue l.yielded;
  spare : l.edits.spare + length l.yielded ≡ l.fn.edits.spare;
}
