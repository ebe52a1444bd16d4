use Rattle.std.proofs.Common.{◌≡◌, drop}
use Rattle.std.specs.List.{fold}
use Rattle.pfl_lines.specs.Parts.{with_letter, flag_letters}
use Rattle.pfl_lines.proofs.parts.letters_of.Given as goal

abbrev pub invariant-loop-letter : goal.invariant-loop-letter
invariant-loop-letter l = record {
  items : l.letter-items ≡ flag_letters;
  read : fold with_letter (0, l.word) flag_letters ≡ fold with_letter (l.flags, l.rest) (drop l.letter-index flag_letters);
}
