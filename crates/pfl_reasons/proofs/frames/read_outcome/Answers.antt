use Rattle.std.proofs.Common.{ap, arith, inl, length}
use Rattle.pfl_wire.specs.declared.message.Message.{Message}
use Rattle.pfl_wire.proofs.ForCallers.{few_records}
use Rattle.pfl_reasons.proofs.frames.read_outcome.Goals as goal

pub count-requires-clause-fits : goal.count-requires-clause-fits
count-requires-clause-fits c = inl (omega (arith, few_records c.in-Ok.frame, c.in-Ok.ensures.len, ap (length {A = Message}) c.records.ensures))
