use Rattle.std.proofs.Common.{length}
use Rattle.pfl_wire.specs.Reading.{groups_at}
use Rattle.pfl_wire.specs.inner.Answers.{kept_lists}
use Rattle.pfl_wire.proofs.Fields.{IsBytes}
use Rattle.pfl_wire.proofs.Loop.{Goes}
use Rattle.pfl_wire.proofs.read_frame.read_groups.Given as goal

abbrev pub invariant-loop-rest : goal.invariant-loop-rest
invariant-loop-rest g l = record {
  fits : IsBytes l.rest;
  goes : Goes (kept_lists l.kept) (groups_at (length l.rest) l.rest) (groups_at (length l.bytes) l.bytes);
}

abbrev pub decreases-loop-rest : goal.decreases-loop-rest
decreases-loop-rest g l = length l.rest
