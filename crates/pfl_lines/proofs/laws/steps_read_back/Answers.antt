use Rattle.pfl_lines.proofs.WrittenLines.{steps-read}
use Rattle.pfl_lines.proofs.laws.steps_read_back.Goals as goal

pub returns : goal.returns
returns c = steps-read
