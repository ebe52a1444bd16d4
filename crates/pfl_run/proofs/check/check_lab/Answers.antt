use Rattle.std.proofs.Common.{inl, inr, rules, sym}
use Rattle.pfl_run.proofs.Devices.{has_failed, checks_to_end}
use Rattle.pfl_run.proofs.Runs.{keeps_same}
use Rattle.pfl_run.proofs.check.check_lab.Goals as goal

-- all lines were checked
pub returns-in-Ok-clause-checks : goal.returns-in-Ok-clause-checks
returns-in-Ok-clause-checks g c = inl (record {
  bad = c.in-Ok.checked.bad;
  reads = rw (sym c.new-lines.ensures.left) (search (rules, checks_to_end));
  quiet = keeps_same _;
  exit = c.ended_status.ensures;
})

-- the check stopped
pub returns-in-Err-clause-checks : goal.returns-in-Err-clause-checks
returns-in-Err-clause-checks g c = inr (record {
  fault = c.in-Err.fault;
  why = rw (sym c.new-lines.ensures.left) c.in-Err.ensures.stop;
  device = search (rules, has_failed);
  printed = c.report_fault.ensures.printed;
  exit = c.report_fault.ensures.status;
})
