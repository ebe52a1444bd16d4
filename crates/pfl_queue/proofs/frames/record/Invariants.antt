use Rattle.std.proofs.Common.{◌≡◌, ◌≤◌, ◌+◌, ◌++◌, map, take, length}
use Rattle.pfl_queue.specs.Edits.{taking}
use Rattle.pfl_queue.proofs.frames.record.Given as goal

abbrev pub invariant-loop-entry : goal.invariant-loop-entry
invariant-loop-entry g l = record {
  edits : l.change.list ≡ l.fn.change.list ++ map taking (take l.entry-index l.entries);
  room : length l.entries ≤ l.change.spare + l.entry-index;
}
