use Rattle.std.proofs.Common.{◌≡◌, length}
use Rattle.pfl_lines.specs.Words.{words}
use Rattle.pfl_lines.proofs.words.skip_blanks.Given as goal

abbrev pub invariant-loop-first : goal.invariant-loop-first
invariant-loop-first l = words l.rest ≡ words l.line

abbrev pub decreases-loop-first : goal.decreases-loop-first
decreases-loop-first l = length l.rest
