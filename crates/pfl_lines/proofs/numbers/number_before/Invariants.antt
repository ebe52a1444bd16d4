use Rattle.std.proofs.Common.{◌≡◌, ◌≤◌, length}
use Rattle.pfl_lines.specs.Numbers.{cut_at}
use Rattle.pfl_lines.specs.inner.Numbers.{number_before}
use Rattle.pfl_lines.proofs.Before.{said_before}
use Rattle.pfl_lines.proofs.numbers.number_before.Given as goal

abbrev pub invariant-loop-byte : goal.invariant-loop-byte
invariant-loop-byte l = record {
  same : number_before l.separator l.greatest l.word ≡ said_before l.greatest l.n (cut_at l.separator l.rest);
  within : l.n ≤ l.greatest;
}

abbrev pub decreases-loop-byte : goal.decreases-loop-byte
decreases-loop-byte l = length l.rest
