use Rattle.std.proofs.Common.{inr}
use Rattle.pfl_run.proofs.check.check_whole.Goals as goal

pub returns-in-Ok-clause-stop : goal.returns-in-Ok-clause-stop
returns-in-Ok-clause-stop g c = inr (record {
  why = c.in-Err-check_lines.fault;
  fault_is = c.from.ensures;
  mid = _;
  new = _;
  number = _;
  limits = _;
  rules_a = _;
  rules_b = _;
  setup = c.in-Ok.ensures.setup;
  until = c.in-Err-check_lines.ensures.until;
})
