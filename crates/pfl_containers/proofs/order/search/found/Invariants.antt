use Rattle.std.proofs.Common.{Option, ℕ}
use Rattle.pfl_containers.specs.inner.Searches.{Finds}
use Rattle.pfl_containers.proofs.order.search.found.Given as goal

-- what is found from here on is what the search finds
abbrev pub invariant-loop-steps_left : goal.invariant-loop-steps_left
invariant-loop-steps_left g l = (found : Option ℕ) → Finds g.K.Ordered.order l.nodes l.link l.key l.steps_left found
    → Finds g.K.Ordered.order l.nodes l.root l.key l.steps found

abbrev pub decreases-loop-steps_left : goal.decreases-loop-steps_left
decreases-loop-steps_left g l = l.steps_left
