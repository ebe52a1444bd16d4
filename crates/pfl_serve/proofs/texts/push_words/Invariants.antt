use Rattle.std.proofs.Common.{◌≡◌, ◌+◌, ◌*◌, ◌≤◌, ◌++◌, take}
use Rattle.std.specs.List.{flat_map}
use Rattle.arrayvec.specs.ArrayString.{array_string_len}
use Rattle.pfl_serve.specs.Texts.{numbered}
use Rattle.pfl_serve.proofs.texts.push_words.Given as goal

-- the words so far stand after the line
abbrev pub invariant-loop-word : goal.invariant-loop-word
invariant-loop-word l = record {
  bytes : l.line.bytes ≡ l.initial.line.bytes ++ flat_map numbered (take l.word-index l.words);
  few : array_string_len l.line ≤ array_string_len l.initial.line + 21 * l.word-index;
}
