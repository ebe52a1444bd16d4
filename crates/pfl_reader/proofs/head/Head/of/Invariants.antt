use Rattle.std.proofs.Common.{◌≡◌, drop}
use Rattle.pfl_reader.specs.Scans.{head_of}
use Rattle.pfl_reader.proofs.head.Head.of.Given as goal

abbrev pub invariant-loop-byte : goal.invariant-loop-byte
invariant-loop-byte l = head_of (drop l.byte-index l.line) ≡ head_of l.line
