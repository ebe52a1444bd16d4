use Rattle.pfl_timeline.proofs.Replying.{refused-keeps}
use Rattle.pfl_timeline.proofs.laws.refused_commands_change_nothing.Goals as goal

pub returns : goal.returns
returns c = refused-keeps
