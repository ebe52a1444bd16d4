use Rattle.std.proofs.Common.{arith}
use Rattle.pfl_script.proofs.Logging.{logged_next, logged_all}
use Rattle.pfl_script.proofs.logged.push_events.Goals as goal

pub loop-index-preserved : goal.loop-index-preserved
loop-index-preserved g c =
    logged_next _ _ _ _ _ _ _ (omega arith) c.index-events-index.is c.loop-index.invariant c.in_ok-push_event.ensures

pub returns : goal.returns
returns g c = logged_all _ _ _ _ _ (omega arith) c.loop-index.invariant
