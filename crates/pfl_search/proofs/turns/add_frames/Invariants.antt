use Rattle.std.specs.Prelude.{◌≡◌, ◌++◌, length, map}
use Rattle.pfl_search.specs.Choices.{turn_on}
use Rattle.pfl_search.specs.Visits.{in_turn}
use Rattle.pfl_search.proofs.turns.add_frames.Given as goal

abbrev pub invariant-loop-ticketed : goal.invariant-loop-ticketed
invariant-loop-ticketed g l =
    l.turns.items ++ in_turn l.last l.begun l.world (map (λ t. turn_on l.place l.phase l.event t.ticket) l.frames)
    ≡ l.initial.turns.items ++ in_turn l.last l.begun l.world (map (λ t. turn_on l.place l.phase l.event t.ticket) l.initial.frames)

abbrev pub decreases-loop-ticketed : goal.decreases-loop-ticketed
decreases-loop-ticketed g l = length l.frames
