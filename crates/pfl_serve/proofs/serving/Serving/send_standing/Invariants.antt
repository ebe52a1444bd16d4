use Rattle.std.proofs.Common.{◌-◌, ◌≡◌, ◌≤◌, length}
use Rattle.pfl_session.specs.Passes.{GoesOn, IsPassOf, seen_in}
use Rattle.pfl_serve.specs.Seats.{site_of}
use Rattle.pfl_serve.specs.Sessions.{IsSent}
use Rattle.pfl_serve.specs.inner.Answers.{Writes}
use Rattle.pfl_serve.proofs.serving.Serving.send_standing.Given as goal

-- the entries up to here were sent; the pass has seen all that there were at first
abbrev pub invariant-loop-sent : goal.invariant-loop-sent
invariant-loop-sent g l = record {
  lab : IsPassOf g.J.Which.publisher g.J.Which.tallies l.pass;
  goes_on : GoesOn l.fn.pass l.pass;
  there : l.entries ≤ length (seen_in l.pass);
  all : length (seen_in l.fn.pass) ≤ l.entries;
  sent : Writes (IsSent (site_of g.J.Which) (length (seen_in l.fn.pass)) l.fn.sent l.sent l.fn.pass l.pass)
      (g.W.Output.written l.fn.writer) (g.W.Output.written l.writer);
  stays : g.W.Output.has_failed l.writer ≡ g.W.Output.has_failed l.fn.writer;
}

abbrev pub decreases-loop-sent : goal.decreases-loop-sent
decreases-loop-sent g l = l.entries - l.sent
