use Rattle.std.specs.Prelude.{◌≡◌, ◌++◌, drop}
use Rattle.pfl_search.specs.Choices.{turns_from}
use Rattle.pfl_search.specs.Visits.{in_turn}
use Rattle.pfl_search.proofs.turns.add_all.Given as goal

-- what stood there, the turns of the choices so far, and those of the others
abbrev pub invariant-loop-place : goal.invariant-loop-place
invariant-loop-place g l =
    l.turns.items ++ in_turn l.last l.begun l.world (turns_from l.begun l.place l.world (drop l.place l.choices))
    ≡ l.initial.turns.items ++ in_turn l.last l.begun l.world (turns_from l.begun 0 l.world l.choices)
