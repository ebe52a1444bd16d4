use Rattle.std.proofs.Common.{◌≡◌}
use Rattle.pfl_host.specs.Reports.{NotesBrowsers}
use Rattle.pfl_host.proofs.admission.admit.Given as goal

-- browsers alone have come so far
abbrev pub invariant-loop : goal.invariant-loop
invariant-loop g l = record {
  given : g.D.Doors.given l.doors ≡ g.D.Doors.given l.fn.doors;
  port : g.D.Doors.listens l.doors ≡ g.D.Doors.listens l.fn.doors;
  noted : NotesBrowsers (g.D.Doors.turned l.fn.doors) (g.D.Doors.turned l.doors) (g.F.Output.written l.fn.faults) (g.F.Output.written l.faults)
      (g.F.Output.has_failed l.fn.faults) (g.F.Output.has_failed l.faults);
}
