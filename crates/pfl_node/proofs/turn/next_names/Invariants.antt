use Rattle.std.proofs.Common.{length, true}
use Rattle.std.specs.Prelude.{filter}
use Rattle.pfl_bulk.specs.Bulk.{names_after}
use Rattle.pfl_edits.specs.Maps as maps
use Rattle.pfl_track.specs.declared.state.State.{State}
use Rattle.pfl_node.specs.Turning.{is_eligible}
use Rattle.pfl_node.proofs.Risen.{IsGathered, names}
use Rattle.pfl_node.proofs.turn.next_names.Given as goal

-- the names of the states that may be sent
abbrev pub invariant-loop-count : goal.invariant-loop-count
invariant-loop-count g l = IsGathered
    (names (filter (is_eligible l.parts l.since) (maps.values l.parts.states))) l.initial.at l.at l.names l.count l.most

-- how many states are after the cursor
abbrev pub decreases-loop-count : goal.decreases-loop-count
decreases-loop-count g l = length (names_after l.at (names (filter (λ (s : State). true) (maps.values l.parts.states))))
