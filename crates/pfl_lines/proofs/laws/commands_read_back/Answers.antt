use Rattle.pfl_lines.proofs.WrittenLines.{commands_read, names_are_words}
use Rattle.pfl_lines.proofs.laws.commands_read_back.Goals as goal

pub returns : goal.returns
returns c = record { commands = commands_read; names = names_are_words }
