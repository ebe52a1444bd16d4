use Rattle.std.proofs.Common.{◌-◌}
use Rattle.pfl_wire.specs.Reading.{records_at}
use Rattle.pfl_wire.specs.inner.Answers.{kept_items}
use Rattle.pfl_wire.proofs.Loop.{Goes}
use Rattle.pfl_wire.proofs.read_frame.read_records.Given as goal

abbrev pub invariant-loop : goal.invariant-loop
invariant-loop g l = Goes (kept_items l.kept) (records_at l.group.action (l.group.count - l.counter) l.rest) (records_at l.group.action l.group.count l.bytes)
