use Rattle.std.proofs.Common.{◌≡◌, ◌≤◌, length, vec_capacity}
use Rattle.pfl_host.specs.Reports.{NotesBrowsers}
use Rattle.pfl_host.specs.Servers.{AreUnfailed}
use Rattle.pfl_host.proofs.admission.admit_all.Given as goal

-- a connection for each turn so far, and room for the others
abbrev pub invariant-loop : goal.invariant-loop
invariant-loop g l = record {
  given : g.D.Doors.given l.doors ≡ l.all.items;
  unfailed : AreUnfailed g.D.Reader.Input.has_failed g.D.Writer.Output.has_failed l.all.items;
  so_far : length l.all.items ≡ l.counter;
  few : l.counter ≤ l.count;
  room : l.count ≤ vec_capacity l.all;
  port : g.D.Doors.listens l.doors ≡ g.D.Doors.listens l.fn.doors;
  noted : NotesBrowsers (g.D.Doors.turned l.fn.doors) (g.D.Doors.turned l.doors) (g.F.Output.written l.fn.faults) (g.F.Output.written l.faults)
      (g.F.Output.has_failed l.fn.faults) (g.F.Output.has_failed l.faults);
}
