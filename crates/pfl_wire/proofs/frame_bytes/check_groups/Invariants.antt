use Rattle.std.proofs.Common.{length, None}
use Rattle.pfl_wire.specs.Reading.{groups_at}
use Rattle.pfl_wire.proofs.Fields.{IsBytes}
use Rattle.pfl_wire.proofs.Loop.{Goes}
use Rattle.pfl_wire.proofs.frame_bytes.check_groups.Given as goal

abbrev pub invariant-loop-rest : goal.invariant-loop-rest
invariant-loop-rest l = record { fits : IsBytes l.rest; goes : Goes None (groups_at (length l.rest) l.rest) (groups_at (length l.bytes) l.bytes) }

abbrev pub decreases-loop-rest : goal.decreases-loop-rest
decreases-loop-rest l = length l.rest
