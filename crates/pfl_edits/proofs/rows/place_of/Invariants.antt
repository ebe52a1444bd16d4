use Rattle.std.proofs.Common.{◌-◌, ◌≤◌, length, take, drop}
use Rattle.pfl_edits.specs.Ordered.{IsBelow}
use Rattle.pfl_edits.specs.inner.Ordered.{IsAbove}
use Rattle.pfl_edits.proofs.rows.place_of.Given as goal

abbrev pub invariant-loop-low : goal.invariant-loop-low
invariant-loop-low g l =
    let k = g.X.Keyed in
    record {
      order : l.low ≤ l.high;
      within : l.high ≤ length l.rows;
      before : IsAbove k.order k.key l.key (take l.low l.rows);
      behind : IsBelow k.order k.key l.key (drop l.high l.rows);
    }

abbrev pub decreases-loop-low : goal.decreases-loop-low
decreases-loop-low g l = l.high - l.low
