use Rattle.std.proofs.Common.{◌∙◌}
use Rattle.pfl_host.proofs.Printing.{notes_more}
use Rattle.pfl_host.proofs.admission.admit.Goals as goal

-- one browser more
pub loop-preserved : goal.loop-preserved
loop-preserved g c =
    let came = c.in-Ok-Browser.ensures in
    record {
      given = rw c.in-Ok-Browser.field-0-is at came.given ∙ c.loop.invariant.given;
      port = came.port ∙ c.loop.invariant.port;
      noted = notes_more _ _ _ _ _ _ _ _ _ c.loop.invariant.noted (rw c.in-Ok-Browser.field-0-is at came.turned) c.report_browser.ensures;
    }
