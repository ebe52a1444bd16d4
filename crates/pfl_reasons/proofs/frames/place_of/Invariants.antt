use Rattle.std.proofs.Common.{◌≡◌, ◌+◌, drop}
use Rattle.pfl_reasons.specs.Senders.{nth_sender}
use Rattle.pfl_reasons.proofs.frames.place_of.Given as goal

abbrev pub invariant-loop-index : goal.invariant-loop-index
invariant-loop-index g l = nth_sender 1 l.earlier l.events ≡ nth_sender (l.index + 1) l.left (drop l.index l.events)
