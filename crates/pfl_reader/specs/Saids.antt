-- What a line of which this is kept says.
use Rattle.std.specs.Prelude.{Bool, Result, Err, if◌then◌else◌}
use Rattle.pfl_lines.specs.declared.fault.LineFault.{LineFault}
use Rattle.pfl_lines.specs.declared.fault.LineFault.TheVariants.{Long}
use Rattle.pfl_lines.specs.declared.search.ScriptLine.{ScriptLine}
use Rattle.pfl_lines.specs.Search.{parsed_script, says_search}
use Rattle.pfl_lines.specs.Words.{words}
use Rattle.pfl_lines.specs.declared.setup.SetupLine.{SetupLine}
use Rattle.pfl_lines.specs.Setup.{parsed_setup}
use Rattle.pfl_lines.specs.declared.session.SessionLine.{SessionLine}
use Rattle.pfl_lines.specs.Session.{parsed_session}
use Rattle.pfl_reader.specs.Scans.{Kept}

-- what is kept of a line says as one of a script
abbrev pub kept_said : Kept → Result ScriptLine LineFault
kept_said k = if k.long then Err Long else parsed_script k.bytes

-- what is kept of a line begins with `search`
abbrev pub kept_search : Kept → Bool
kept_search k = says_search (words k.bytes)

-- what is kept of a line says as one of a setup
abbrev pub kept_setup : Kept → Result SetupLine LineFault
kept_setup k = if k.long then Err Long else parsed_setup k.bytes

-- what is kept of a line says to a session
abbrev pub kept_session : Kept → Result SessionLine LineFault
kept_session k = if k.long then Err Long else parsed_session k.bytes
