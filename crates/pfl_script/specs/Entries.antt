-- The line of a journal's entry (this project's profile).
use Rattle.std.specs.Prelude.{ℕ, List, ◌++◌, codes}
use Rattle.std.specs.Fmt.{decimal}
use Rattle.pfl_language.specs.declared.command.Command.{Command}
use Rattle.pfl_lines.specs.Written.{command_text}

-- an entry with its number, the session that asked, and the command as its line says it
abbrev pub entry_text : ℕ → ℕ → Command → List ℕ
entry_text n session c = codes "entry " ++ decimal n ++ codes " " ++ decimal session ++ codes " " ++ command_text c ++ codes "\n"
