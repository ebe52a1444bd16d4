use Rattle.std.specs.Prelude.{◌≡◌, length, map}
use Rattle.pfl_search.specs.Goals.{same_names}
use Rattle.pfl_search.proofs.names.same_names.Given as goal

-- the names that are left decide
abbrev pub invariant-loop-row : goal.invariant-loop-row
invariant-loop-row l =
    same_names (map (λ r. r.state.name) l.rows) (map (λ r. r.state.name) l.others) ≡ same_names (map (λ r. r.state.name) l.initial.rows)
    (map (λ r. r.state.name) l.initial.others)

abbrev pub decreases-loop-row : goal.decreases-loop-row
decreases-loop-row l = length l.rows
