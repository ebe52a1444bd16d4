use Rattle.std.proofs.Common.{◌≡◌, ◌≤◌, length}
use Rattle.pfl_session.specs.Passes.{GoesOn, IsPassOf, seen_in}
use Rattle.pfl_serve.specs.Seats.{site_of}
use Rattle.pfl_serve.specs.Sessions.{IsSent}
use Rattle.pfl_serve.specs.inner.Answers.{Writes}
use Rattle.pfl_serve.proofs.serving.Serving.follow.Given as goal

-- the entries up to here were sent, all that there were at first among them
abbrev pub invariant-loop : goal.invariant-loop
invariant-loop g l = record {
  lab : IsPassOf g.J.Which.publisher g.J.Which.tallies l.seat.pass;
  goes_on : GoesOn l.fn.seat.pass l.seat.pass;
  reader : l.seat.reader ≡ l.fn.seat.reader;
  all : length (seen_in l.fn.seat.pass) ≤ l.sent;
  sent : Writes (IsSent (site_of g.J.Which) (length (seen_in l.fn.seat.pass)) l.fn.sent l.sent l.fn.seat.pass l.seat.pass)
      (g.O.Output.written l.fn.seat.writer) (g.O.Output.written l.seat.writer);
  stays : g.O.Output.has_failed l.seat.writer ≡ g.O.Output.has_failed l.fn.seat.writer;
}
