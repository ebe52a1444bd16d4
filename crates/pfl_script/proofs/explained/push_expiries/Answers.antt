use Rattle.std.proofs.Common.{refl}
use Rattle.pfl_script.specs.Reasons.{expiry_line}
use Rattle.pfl_script.proofs.Lists.{pushed_more}
use Rattle.pfl_script.proofs.explained.push_expiries.Goals as goal

pub loop-state-preserved : goal.loop-state-preserved
loop-state-preserved g c = pushed_more expiry_line _ _ _ _ _ _ _ c.loop-state.invariant c.in_ok-push_shown.ensures refl c.loop-state-test.true
