use Rattle.pfl_script.specs.Frames.{frame_step_lines}
use Rattle.pfl_script.proofs.Lists.{pushed_more}
use Rattle.pfl_script.proofs.traced.push_frame_steps.Goals as goal

pub loop-step-preserved : goal.loop-step-preserved
loop-step-preserved g c =
    pushed_more (frame_step_lines c.args.name.now) _ _ _ _ _ _ _ c.loop-step.invariant c.in_ok-push_frame_step.ensures c.step-item.is c.loop-step-test.true
