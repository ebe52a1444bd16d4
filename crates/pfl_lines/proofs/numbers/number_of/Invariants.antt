use Rattle.std.proofs.Common.{◌≡◌, ◌≤◌, length}
use Rattle.pfl_lines.proofs.Before.{said}
use Rattle.pfl_lines.proofs.numbers.number_of.Given as goal

abbrev pub invariant-loop-digit : goal.invariant-loop-digit
invariant-loop-digit l = record {
  same : said l.greatest 0 l.word ≡ said l.greatest l.n l.rest;
  within : l.n ≤ l.greatest;
}

abbrev pub decreases-loop-digit : goal.decreases-loop-digit
decreases-loop-digit l = length l.rest
