use Rattle.std.specs.List.{list_all}
use Rattle.std.specs.Prelude.{◌≡◌, take}
use Rattle.pfl_lines.specs.Commands.{is_text}
use Rattle.pfl_lines.proofs.commands.is_all_text.Given as goal

abbrev pub invariant-loop-byte : goal.invariant-loop-byte
invariant-loop-byte l = l.all ≡ list_all is_text (take l.byte-index l.line)
