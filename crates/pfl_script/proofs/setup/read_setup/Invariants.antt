use Rattle.std.proofs.Common.{◌≡◌, ◌+◌, ◌≤◌, ◌^◌}
use Rattle.pfl_base.specs.Counts.{Counts}
use Rattle.pfl_reader.specs.Readers.{room}
use Rattle.pfl_script.specs.Readers.{counted_on}
use Rattle.pfl_script.proofs.Setting.{Going, KeptSo}
use Rattle.pfl_script.proofs.setup.read_setup.Given as goal

abbrev pub invariant-loop-text : goal.invariant-loop-text
invariant-loop-text g l = record {
  going : Going l.fn.reader.left l.reader.left l.number l.draft;
  text : KeptSo l.fn.reader.left l.reader.left l.text;
  counted : l.fn.reader.lines ≡ 0 → l.reader.lines ≡ l.number;
  lines : l.reader.lines ≡ counted_on l.fn.reader.lines l.number;
  few : l.number + room l.reader ≤ 2 ^ 41;
  reads : Counts l.fn.reader.reads l.reader.reads l.reader.turns;
  most : l.reader.turns ≤ 16777216;
  stays : l.reader.failed ≡ l.fn.reader.failed;
}

abbrev pub decreases-loop-text : goal.decreases-loop-text
decreases-loop-text g l = room l.reader
