use Rattle.std.proofs.Common.{◌≡◌, take, drop}
use Rattle.pfl_lines.specs.Numbers.{cut_at, grown}
use Rattle.pfl_lines.proofs.numbers.cut.Given as goal

abbrev pub invariant-loop-i : goal.invariant-loop-i
invariant-loop-i l = cut_at l.separator l.word ≡ grown (take l.i l.word) (cut_at l.separator (drop l.i l.word))
