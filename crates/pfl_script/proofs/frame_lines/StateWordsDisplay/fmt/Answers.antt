use Rattle.std.proofs.Common.{refl, append_assoc}
use Rattle.std.proofs.Output.{has_written_of_eq}
use Rattle.pfl_script.specs.Frames.{sent_state_text}
use Rattle.pfl_script.proofs.frame_lines.StateWordsDisplay.fmt.Goals as goal

pub returns-clause-writes : goal.returns-clause-writes
unfolding sent_state_text
returns-clause-writes g c plain done =
    has_written_of_eq _ _ _ _ _ (rw (c.of_u32-rule.ensures, c.asks_word-asks.ensures) (simp append_assoc refl)) (c.write.ensures.writes plain done)
