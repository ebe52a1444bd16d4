use Rattle.pfl_host.specs.Reports.{browser_lines, PrintsOn}
use Rattle.pfl_host.proofs.reports.report_browsers.Given as goal

-- a line for each turn so far
abbrev pub invariant-loop : goal.invariant-loop
invariant-loop g l = PrintsOn (browser_lines l.counter) (g.F.Output.written l.fn.faults) (g.F.Output.written l.faults)
    (g.F.Output.has_failed l.fn.faults) (g.F.Output.has_failed l.faults)
