-- What lines say to a session (this project's profile): `view`, `setup` and `follow`, which no run of lines takes, or a command.
use Rattle.std.specs.Prelude.{ℕ, List, [], ◌∷◌, codes, bytes_eq, if◌then◌else◌, Some, None, Result, Ok}
use Rattle.pfl_base.specs.Numbers.{greatest}
use Rattle.pfl_lines.specs.declared.fault.LineFault.{LineFault}
use Rattle.pfl_lines.specs.declared.session.SessionLine.{SessionLine}
use Rattle.pfl_lines.specs.declared.session.SessionLine.TheVariants as session
use Rattle.pfl_lines.specs.Words.{words}
use Rattle.pfl_lines.specs.Readings.{◌>>=◌, word_at}
use Rattle.pfl_lines.specs.Parts.{number_at}
use Rattle.pfl_lines.specs.Commands.{checked, command_of, finished}

-- K, the number of entries that are passed over
unfoldable pub follow_after : List (List ℕ) → Result SessionLine LineFault
follow_after ws = do
  passed ← number_at greatest ws
  finished (session.Follow (Some passed.0), passed.1)

-- [K]
abbrev pub follow_of : List (List ℕ) → Result SessionLine LineFault
follow_of [] = Ok (session.Follow None)
follow_of (word ∷ ws) = follow_after (word ∷ ws)

-- the command that the words say
abbrev pub called : List (List ℕ) → Result SessionLine LineFault
called ws = do
  command ← command_of ws
  Ok (session.Ask command)

-- what belongs to the first word, or the command that all words say
abbrev pub session_by : List ℕ → List (List ℕ) → List (List ℕ) → Result SessionLine LineFault
session_by word rest ws =
    if bytes_eq word (codes "view") then finished (session.View, rest) else
    if bytes_eq word (codes "setup") then finished (session.Setup, rest) else
    if bytes_eq word (codes "follow") then follow_of rest else called ws

-- what words say to a session
unfoldable pub session_of : List (List ℕ) → Result SessionLine LineFault
session_of ws = do
  word ← word_at ws
  session_by word.0 word.1 ws

-- what a line says to a session
unfoldable pub parsed_session : List ℕ → Result SessionLine LineFault
parsed_session line = do
  text ← checked line
  session_of (words text)
