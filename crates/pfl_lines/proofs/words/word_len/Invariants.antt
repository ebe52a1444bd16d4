use Rattle.std.proofs.Common.{◌≡◌, ◌++◌, take, drop}
use Rattle.pfl_lines.specs.inner.Words.{front, behind}
use Rattle.pfl_lines.proofs.words.word_len.Given as goal

abbrev pub invariant-loop-i : goal.invariant-loop-i
invariant-loop-i l = record {
  before : front l.line ≡ take l.i l.line ++ front (drop l.i l.line);
  after : behind l.line ≡ behind (drop l.i l.line);
}
