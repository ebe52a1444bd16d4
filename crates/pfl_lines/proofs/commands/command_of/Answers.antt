use Rattle.std.proofs.Common.{◌∙◌, sym}
use Rattle.pfl_lines.specs.Words.{words}
use Rattle.pfl_lines.specs.Readings.{word_at}
use Rattle.pfl_lines.proofs.Commanded.{command_of-whole, Gives-none}
use Rattle.pfl_lines.proofs.commands.command_of.Goals as goal

pub returns : goal.returns
returns c =
    let none = Gives-none _ c.word_at.result (word_at (words c.in-Ok.read.1.now)) c.word_at.ensures (sym c.is_ok.ensures.value ∙ c.if-is_ok.false) in
    c.whole_command.ensures ∙ command_of-whole (words c.args.line.now) (words c.in-Ok.read.1.now) c.in-Ok.read.0 c.in-Ok.ensures none
