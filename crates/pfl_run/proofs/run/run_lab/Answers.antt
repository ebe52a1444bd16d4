use Rattle.std.proofs.Common.{inl, inr, rules, sym}
use Rattle.pfl_run.proofs.Devices.{has_failed, runs_to_end}
use Rattle.pfl_run.proofs.Runs.{keeps_same}
use Rattle.pfl_run.proofs.run.run_lab.Goals as goal

-- all lines were executed
pub returns-in-Ok-clause-runs : goal.returns-in-Ok-clause-runs
returns-in-Ok-clause-runs g c = inl (record {
  bad = c.in-Ok.ended.bad;
  reads = rw (sym c.new-lines.ensures.left) (search (rules, runs_to_end));
  quiet = keeps_same _;
  exit = c.ended_status.ensures;
})

-- the run stopped
pub returns-in-Err-clause-runs : goal.returns-in-Err-clause-runs
returns-in-Err-clause-runs g c = inr (record {
  fault = c.in-Err.fault;
  why = rw (sym c.new-lines.ensures.left) c.in-Err.ensures.stop;
  device = search (rules, has_failed);
  printed = c.report_fault.ensures.printed;
  exit = c.report_fault.ensures.status;
})
