-- Which replies may want memory for their text, or for a copy beside the places that it lists (this project's profile).
use Rattle.std.specs.Prelude.{Bool, true, false, ◌||◌}
use Rattle.pfl_timeline.specs.Replies.{Reply, Shown, Names, Logged, Explained, Traced}

-- the reply shows a branch, or lists its events
abbrev pub is_large : Reply → Bool
is_large (Shown name events cursor w) = true
is_large (Logged name events cursor) = true
is_large _ = false

-- the reply explains an event, shows what became of a frame, or names the branches
abbrev pub tells_at_length : Reply → Bool
tells_at_length (Explained name k e came why) = true
tells_at_length (Traced name ticket trace) = true
tells_at_length (Names names) = true
tells_at_length _ = false

-- the text of the reply may want memory, and so may its copy; that of any other reply is written without, also where it lists places
abbrev pub is_listing : Reply → Bool
is_listing reply = is_large reply || tells_at_length reply
