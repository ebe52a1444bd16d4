use Rattle.std.proofs.Common.{◌≡◌, ◌+◌, ◌≤◌, ◌^◌}
use Rattle.pfl_base.specs.Counts.{Counts}
use Rattle.pfl_reader.specs.Readers.{room}
use Rattle.pfl_script.specs.Readers.{counted_on}
use Rattle.pfl_script.proofs.Running.{Ran}
use Rattle.pfl_script.proofs.engine.run_lines.Given as goal

abbrev pub invariant-loop-reader : goal.invariant-loop-reader
invariant-loop-reader g l = record {
  ran : Ran l.fn.reader.left l.reader.left l.fn.timeline l.timeline
      (g.W.Output.written l.fn.writer) (g.W.Output.written l.writer) l.ended.lines l.ended.bad;
  few : l.ended.lines + room l.reader ≤ 2 ^ 41;
  fewer : l.ended.bad ≤ l.ended.lines;
  lines : l.reader.lines ≡ counted_on l.fn.reader.lines l.ended.lines;
  reads : Counts l.fn.reader.reads l.reader.reads l.reader.turns;
  most : l.reader.turns ≤ 16777216;
  stays : l.reader.failed ≡ l.fn.reader.failed;
  writer_stays : g.W.Output.has_failed l.writer ≡ g.W.Output.has_failed l.fn.writer;
}

abbrev pub decreases-loop-reader : goal.decreases-loop-reader
decreases-loop-reader g l = room l.reader
