-- The text of the answer to a search (this project's profile).
use Rattle.std.specs.Prelude.{ℕ, Bool, List, ◌++◌, length, codes, if◌then◌else◌}
use Rattle.std.specs.Fmt.{decimal}
use Rattle.pfl_language.specs.declared.event.Event.{Event}
use Rattle.pfl_timeline.specs.Searches.{Finding, Found, Nothing, GaveUp, Refused}
use Rattle.pfl_script.specs.Logs.{logged_lines}
use Rattle.pfl_script.specs.Texts.{refused_text}

-- a run that was found: the branch, how many events the run has, and how many runs were tried
abbrev pub found_line : List ℕ → ℕ → ℕ → List ℕ
found_line name events tried = codes "found " ++ name ++ codes " events " ++ decimal events ++ codes " runs " ++ decimal tried ++ codes "\n"

-- the events of the run, each as the line that steps it; they count from 1
unfoldable pub found_text : List ℕ → List Event → ℕ → List ℕ
found_text name run tried = found_line name (length run) tried ++ logged_lines name 0 run ++ codes "end\n"

-- how many events a run may have for which there is none: any number, where all runs have fewer than were allowed
abbrev pub length_text : ℕ → Bool → List ℕ
length_text depth ended = if ended then codes "any" else decimal depth

-- the lines of the answer
abbrev pub finding_text : Finding → List ℕ
finding_text (Found name run tried) = found_text name run tried
finding_text (Nothing depth tried asked ended) =
    codes "none " ++ length_text depth ended ++ codes " " ++ decimal tried ++ codes " " ++ decimal asked ++ codes "\n"
finding_text (GaveUp most) = codes "gave up " ++ decimal most ++ codes "\n"
finding_text (Refused why) = codes "refused " ++ refused_text why ++ codes "\n"
