use Rattle.std.proofs.Common.{◌-◌, None}
use Rattle.pfl_wire.specs.Reading.{records_at}
use Rattle.pfl_wire.proofs.Loop.{Goes}
use Rattle.pfl_wire.proofs.frame_bytes.check_records.Given as goal

abbrev pub invariant-loop : goal.invariant-loop
invariant-loop l = Goes None (records_at l.group.action (l.group.count - l.counter) l.rest) (records_at l.group.action l.group.count l.bytes)
