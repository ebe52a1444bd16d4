use Rattle.std.proofs.Common.{Option}
use Rattle.std.specs.Option.{option_or}
use Rattle.pfl_containers.specs.inner.Searches.{IsNext}
use Rattle.pfl_containers.proofs.order.search.next.Given as goal

-- what is found from here on, or else before, is what the search finds
abbrev pub invariant-loop-steps_left : goal.invariant-loop-steps_left
invariant-loop-steps_left g l = (found : Option (g.row.K.Denot × g.row.V.Denot))
    → IsNext g.K.Ordered.order l.nodes l.link l.key l.steps_left found
    → IsNext g.K.Ordered.order l.nodes l.root l.key l.steps (option_or found l.next)

abbrev pub decreases-loop-steps_left : goal.decreases-loop-steps_left
decreases-loop-steps_left g l = l.steps_left
