use Rattle.pfl_reasons.proofs.Passing.{IsPassing}
use Rattle.pfl_reasons.proofs.frames.frame_steps.Given as goal

abbrev pub invariant-loop-index : goal.invariant-loop-index
invariant-loop-index g l = IsPassing l.ticket l.place l.frame l.events l.index l.list.items l.passage.ticket l.passage.len l.passage.next
