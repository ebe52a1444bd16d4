use Rattle.std.proofs.Common.{◌≡◌, length}
use Rattle.pfl_lines.specs.Words.{words}
use Rattle.pfl_lines.specs.Setup.{kernel_with}
use Rattle.pfl_lines.proofs.setup.kernel_with.Given as goal

abbrev pub invariant-loop-word : goal.invariant-loop-word
invariant-loop-word l = record {
  same : kernel_with l.fn.first (words l.fn.line) ≡ kernel_with l.kernel (words l.rest);
}

abbrev pub decreases-loop-word : goal.decreases-loop-word
decreases-loop-word l = length (words l.rest)
