use Rattle.pfl_receive.proofs.Delivered.{IsDelivered}
use Rattle.pfl_receive.proofs.frame.take_records.Given as goal

abbrev pub invariant-loop-message : goal.invariant-loop-message
invariant-loop-message g l = IsDelivered l.fn.desk l.desk l.same_rules l.fn.records l.message-iterator l.count l.overcounted
