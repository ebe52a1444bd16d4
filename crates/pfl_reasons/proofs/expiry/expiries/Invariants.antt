use Rattle.std.specs.Prelude.{◌≡◌, ◌++◌, length}
use Rattle.std.specs.List.{AllByRecursion}
use Rattle.pfl_reasons.proofs.Expiring.{IsReckoned, rows_expiries}
use Rattle.pfl_reasons.proofs.expiry.expiries.Given as goal

abbrev pub invariant-loop-row : goal.invariant-loop-row
invariant-loop-row g l = record {
  listed : l.list.items ++ rows_expiries l.states l.node l.rows ≡ rows_expiries l.states l.node l.initial.rows;
  reckoned : AllByRecursion (λ r. IsReckoned r.state) l.rows;
}

abbrev pub decreases-loop-row : goal.decreases-loop-row
decreases-loop-row g l = length l.rows
