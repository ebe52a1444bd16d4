use Rattle.std.proofs.Common.{◌≡◌, length, true}
use Rattle.pfl_publish.proofs.publisher.Publisher.attempt.Given as goal

abbrev pub invariant-loop-i : goal.invariant-loop-i
invariant-loop-i g l = record {
  table : l.viewer.table ≡ l.initial.viewer.table;
  seen : l.viewer.seen ≡ l.initial.viewer.seen;
  trying : l.viewer.trying ≡ true;
  held : length l.viewer.held ≡ l.i;
  loads : l.viewer.loads ≡ l.initial.viewer.loads;
}
