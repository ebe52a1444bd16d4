use Rattle.pfl_wire.specs.Frames.{records_of}
use Rattle.pfl_reasons.proofs.Fated.{AreFated}
use Rattle.pfl_reasons.proofs.records.take_all.Given as goal

abbrev pub invariant-loop-message : goal.invariant-loop-message
invariant-loop-message g l = AreFated l.fn.world l.world l.to l.frame.print (records_of l.frame) l.message-iterator l.list.items l.tape.list
