use Rattle.std.proofs.Common.{◌≡◌, ◌≤◌, take}
use Rattle.pfl_reasons.specs.Senders.{senders}
use Rattle.pfl_reasons.proofs.frames.count_senders.Given as goal

abbrev pub invariant-loop-index : goal.invariant-loop-index
invariant-loop-index g l = record { counted : l.sent ≡ senders (take l.index l.events); few : l.sent ≤ l.index }
