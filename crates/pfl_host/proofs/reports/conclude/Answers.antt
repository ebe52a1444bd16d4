use Rattle.std.proofs.Common.{sym}
use Rattle.pfl_host.proofs.Printing.{prints_then}
use Rattle.pfl_host.proofs.reports.conclude.Goals as goal

-- the browsers, and then the fault
pub returns-in-Some-clause-printed : goal.returns-in-Some-clause-printed
returns-in-Some-clause-printed g c =
    rw (c.in-Some.is, sym c.from.ensures) (prints_then _ _ _ _ _ _ _ _ c.report_browsers.ensures c.report_stop.ensures.printed)
