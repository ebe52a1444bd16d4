use Rattle.std.proofs.Common.{inl, inr, sym, rules}
use Rattle.pfl_run.proofs.ForCallers.{setup_has_failed}
use Rattle.pfl_host.proofs.Serving.{from_device, lines_on, lines_then}
use Rattle.pfl_host.proofs.server.Server.serve_lab.Goals as goal

-- all sessions ended
pub returns-in-Ok-clause-serves : goal.returns-in-Ok-clause-serves
returns-in-Ok-clause-serves g c = inl (record {
  first = c.in-Ok.outcome.fault;
  end = rw (sym c.new-lines.ensures.left) (search (rules, from_device));
  seated = c.in-Ok.outcome.browsers;
  few = c.in-Ok.ensures.browsers;
  reports = lines_on _ _ _ _ _ _ _ _ _ c.in-Ok.ensures.noted c.conclude.ensures.printed;
  exit = c.conclude.ensures.status;
})

-- it stopped
pub returns-in-Err-clause-serves : goal.returns-in-Err-clause-serves
returns-in-Err-clause-serves g c = inr (record {
  fault = c.in-Err.fault;
  why = rw (sym c.new-lines.ensures.left) c.in-Err.ensures.stop;
  device = search (rules, setup_has_failed);
  browsers = c.in-Err.ensures.noted_some.browsers;
  all = c.in-Err.ensures.noted_some.all;
  printed = lines_then _ _ _ _ _ _ _ _ c.in-Err.ensures.noted_some.prints c.report_stop.ensures.printed;
  exit = c.report_stop.ensures.status;
})
