-- The lines that list the events of a branch (this project's profile).
use Rattle.std.specs.Prelude.{ℕ, ◌+◌, List, [], ◌∷◌, ◌++◌, length, codes}
use Rattle.std.specs.Fmt.{decimal}
use Rattle.pfl_language.specs.declared.event.Event.{Event}
use Rattle.pfl_lines.specs.Written.{step_text}

-- the branch, with the number of its events and its cursor
abbrev pub log_line : List ℕ → ℕ → ℕ → List ℕ
log_line name events cursor = codes "log " ++ name ++ codes " events " ++ decimal events ++ codes " cursor " ++ decimal cursor ++ codes "\n"

-- an event with its place, as the line that steps it
abbrev pub logged_line : List ℕ → ℕ → Event → List ℕ
logged_line name place e = codes "event " ++ decimal place ++ codes " " ++ step_text name e ++ codes "\n"

-- the events after that many others, each with its place
unfoldable pub logged_lines : List ℕ → ℕ → List Event → List ℕ
logged_lines name n [] = []
logged_lines name n (e ∷ es) = logged_line name (n + 1) e ++ logged_lines name (n + 1) es

-- all events of a branch, those after its cursor too; places count from 1
unfoldable pub log_text : List ℕ → List Event → ℕ → List ℕ
log_text name events cursor = log_line name (length events) cursor ++ logged_lines name 0 events ++ codes "end\n"
