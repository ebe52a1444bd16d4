use Rattle.std.proofs.Common.{refl, append_assoc}
use Rattle.std.proofs.Output.{has_written_of_eq}
use Rattle.pfl_script.proofs.expiry_lines.ExpiryLineDisplay.fmt.Goals as goal

pub returns-clause-writes : goal.returns-clause-writes
returns-clause-writes g c plain done = has_written_of_eq _ _ _ _ _ (simp append_assoc refl) (c.writeln.ensures.writes plain done)
