use Rattle.pfl_run.proofs.LimitStops.{limits_stop}
use Rattle.pfl_run.proofs.setups.read_opening.Goals as goal

pub returns-in-Err-judge-clause-stop : goal.returns-in-Err-judge-clause-stop
returns-in-Err-judge-clause-stop g c =
    limits_stop _ _ _ _ _ _ _ _ (c.in-Ok.ensures.counted c.requires.fresh) c.lines.ensures c.in-Err-judge.ensures.fault
