use Rattle.std.proofs.Common.{◌≡◌, ◌+◌, ◌++◌, length}
use Rattle.std.specs.Vec.Iter.{into_iter_items}
use Rattle.pfl_laws.proofs.reversal.record_all.Given as goal

abbrev pub invariant-loop-edit : goal.invariant-loop-edit
invariant-loop-edit g l = record {
  split : l.yielded ++ into_iter_items l.edit-iterator ≡ l.fn.change.list;
  list : l.changed.list ≡ l.fn.changed.list ++ l.yielded;
  spare : l.changed.spare + length l.yielded ≡ l.fn.changed.spare;
}
