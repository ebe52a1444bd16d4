use Rattle.std.proofs.Common.{◌≡◌, ◌+◌, ◌≤◌, ◌^◌}
use Rattle.pfl_base.specs.Counts.{Counts}
use Rattle.pfl_reader.specs.Readers.{room}
use Rattle.pfl_script.proofs.CheckedLines.{Went}
use Rattle.pfl_script.proofs.check.check_lines.Given as goal

abbrev pub invariant-loop-reader : goal.invariant-loop-reader
invariant-loop-reader g l = record {
  went : Went l.fn.reader.left l.reader.left l.fn.reader.lines l.reader.lines
      (g.W.Output.written l.fn.writer) (g.W.Output.written l.writer) l.checked.good l.checked.bad;
  few : l.reader.lines + room l.reader ≤ l.fn.reader.lines + 2 ^ 41;
  since : l.fn.reader.lines ≤ l.reader.lines;
  fewer : l.fn.reader.lines + l.checked.good + l.checked.bad ≤ l.reader.lines;
  reads : Counts l.fn.reader.reads l.reader.reads l.reader.turns;
  most : l.reader.turns ≤ 16777216;
  stays : l.reader.failed ≡ l.fn.reader.failed;
  writer_stays : g.W.Output.has_failed l.writer ≡ g.W.Output.has_failed l.fn.writer;
}

abbrev pub decreases-loop-reader : goal.decreases-loop-reader
decreases-loop-reader g l = room l.reader
