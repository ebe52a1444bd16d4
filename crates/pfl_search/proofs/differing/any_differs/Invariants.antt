use Rattle.std.specs.Prelude.{◌≡◌, length}
use Rattle.std.specs.List.{list_any}
use Rattle.pfl_table.specs.Tables.{states_of}
use Rattle.pfl_search.specs.Differing.{differs}
use Rattle.pfl_search.proofs.differing.any_differs.Given as goal

-- the rows that are left decide
abbrev pub invariant-loop-row : goal.invariant-loop-row
invariant-loop-row g l =
    list_any (λ r. differs (states_of l.others) r.state) l.rows ≡ list_any (λ r. differs (states_of l.others) r.state) l.initial.rows

abbrev pub decreases-loop-row : goal.decreases-loop-row
decreases-loop-row g l = length l.rows
