use Rattle.std.proofs.Common.{◌≡◌, ◌+◌, ◌≤◌, ◌^◌}
use Rattle.pfl_base.specs.Counts.{Counts}
use Rattle.pfl_script.specs.reader.Readers.{room}
use Rattle.pfl_script.specs.Readers.{counted_on}
use Rattle.pfl_session.specs.Passes.{GoesOn, IsPassOf}
use Rattle.pfl_serve.specs.Seats.{site_of}
use Rattle.pfl_serve.specs.inner.Answers.{HasCome}
use Rattle.pfl_serve.proofs.ServedLines.{Served}
use Rattle.pfl_serve.proofs.serving.Serving.serve.Given as goal

abbrev pub invariant-loop-said : goal.invariant-loop-said
invariant-loop-said g l =
    let j = g.J.Which in
    record {
      served : Served (site_of j) (HasCome g.G.Gate.heard l.seat.reader.waiting l.fn.seat.pass.session)
          l.fn.seat.reader.left l.seat.reader.left l.fn.seat.pass l.seat.pass
          (g.O.Output.written l.fn.seat.writer) (g.O.Output.written l.seat.writer) l.ended.lines l.ended.bad;
      lab : IsPassOf j.publisher j.tallies l.seat.pass;
      goes_on : GoesOn l.fn.seat.pass l.seat.pass;
      few : l.ended.lines + room l.seat.reader ≤ 2 ^ 41;
      fewer : l.ended.bad ≤ l.ended.lines;
      lines : l.seat.reader.lines ≡ counted_on l.fn.seat.reader.lines l.ended.lines;
      reads : Counts l.fn.seat.reader.reads l.seat.reader.reads l.seat.reader.turns;
      most : l.seat.reader.turns ≤ 16777216;
      stays : l.seat.reader.failed ≡ l.fn.seat.reader.failed;
      writer_stays : g.O.Output.has_failed l.seat.writer ≡ g.O.Output.has_failed l.fn.seat.writer;
    }

abbrev pub decreases-loop-said : goal.decreases-loop-said
decreases-loop-said g l = room l.seat.reader
