use Rattle.std.proofs.Common.{◌≡◌, length}
use Rattle.std.specs.List.{AllByRecursion}
use Rattle.pfl_session.specs.Passes.{IsPassOf}
use Rattle.pfl_session.specs.Labs.{HasSeenOwn}
use Rattle.pfl_session.proofs.lab.settle_all.Given as goal

-- the passes that are left are the lab's; once they are settled, all are
abbrev pub invariant-loop-pass : goal.invariant-loop-pass
invariant-loop-pass g l =
    let j = g.J.Which in
    record {
      same : l.ledger ≡ l.fn.ledger;
      left : AllByRecursion (IsPassOf j.publisher j.tallies) l.passes.items;
      rest : AllByRecursion (HasSeenOwn j.opening l.fn.ledger) l.passes.items → AllByRecursion (HasSeenOwn j.opening l.fn.ledger) l.fn.passes.items;
    }

abbrev pub decreases-loop-pass : goal.decreases-loop-pass
decreases-loop-pass g l = length l.passes.items
