use Rattle.std.proofs.Common.{Option}
use Rattle.std.specs.Option.{option_or}
use Rattle.pfl_containers.specs.inner.Searches.{IsFirst}
use Rattle.pfl_containers.proofs.order.search.first.Given as goal

-- what is found from here on, or else before, is what the search finds
abbrev pub invariant-loop-steps_left : goal.invariant-loop-steps_left
invariant-loop-steps_left g l = (found : Option (g.row.K.Denot × g.row.V.Denot)) → IsFirst l.nodes l.link l.steps_left found
    → IsFirst l.nodes l.root l.steps (option_or found l.first)

abbrev pub decreases-loop-steps_left : goal.decreases-loop-steps_left
decreases-loop-steps_left g l = l.steps_left
