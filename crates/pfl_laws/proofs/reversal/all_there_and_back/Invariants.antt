use Rattle.pfl_laws.proofs.Accepted.{Along}
use Rattle.pfl_laws.proofs.reversal.all_there_and_back.Given as goal

abbrev pub invariant-loop-event : goal.invariant-loop-event
invariant-loop-event g l = Along l.fn.world l.events l.event-index l.world l.changed.list
