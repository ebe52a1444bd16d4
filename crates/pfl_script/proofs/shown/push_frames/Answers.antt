use Rattle.std.proofs.Common.{◌∙◌}
use Rattle.pfl_link.specs.Framed.{entry_of}
use Rattle.pfl_script.specs.Shows.{frame_line}
use Rattle.pfl_script.proofs.Lists.{pushed_next}
use Rattle.pfl_script.proofs.shown.push_frames.Goals as goal

pub loop-ticketed-preserved : goal.loop-ticketed-preserved
loop-ticketed-preserved g c =
    pushed_next (λ t. frame_line (entry_of t)) _ _ _ _ _ c.in-Some.ensures.steps c.in_ok-push_frame.ensures ∙ c.loop-ticketed.invariant
