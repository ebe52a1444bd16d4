use Rattle.pfl_host.proofs.Printing.{lines_printed}
use Rattle.pfl_host.proofs.reports.report_browsers.Goals as goal

-- one line more
pub loop-preserved : goal.loop-preserved
loop-preserved g c = lines_printed c.loop.counter _ _ _ _ _ _ c.loop.invariant c.report_browser.ensures
