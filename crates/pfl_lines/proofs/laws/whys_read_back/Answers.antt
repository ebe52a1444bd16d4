use Rattle.pfl_lines.proofs.WrittenLines.{whys-read, event_words_are_no_numbers}
use Rattle.pfl_lines.proofs.laws.whys_read_back.Goals as goal

pub returns : goal.returns
returns c = record { events = whys-read; places = event_words_are_no_numbers }
