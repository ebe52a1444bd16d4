use Rattle.pfl_timeline.proofs.Sieving.{Going}
use Rattle.pfl_timeline.proofs.history.History.without.Given as goal

-- the events after the place, as far as they have come
abbrev pub invariant-loop-index : goal.invariant-loop-index
invariant-loop-index g l = Going l.self l.place l.index l.rest l.fallen.items l.standing
