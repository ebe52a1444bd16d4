-- The lines that only a session has as replies, and the messages of the faults of a service (this project's profile).
use Rattle.std.specs.Prelude.{ℕ, ◌-◌, ◌%◌, Bool, ◌&&◌, ◌==◌, nat_le, min, List, [], ◌∷◌, ◌++◌, codes, if◌then◌else◌, Option, Some, None}
use Rattle.std.specs.List.{flat_map}
use Rattle.std.specs.Fmt.{decimal}
use Rattle.pfl_language.specs.declared.command.Command.{Command}
use Rattle.pfl_script.specs.Entries.{entry_text}
use Rattle.pfl_serve.specs.declared.seat.ServeFault.{ServeFault}
use Rattle.pfl_serve.specs.declared.seat.ServeFault.TheVariants as fault

-- a number, after a space
abbrev pub numbered : ℕ → List ℕ
numbered n = 32 ∷ decimal n

-- the words of a revision
abbrev pub view_text : List ℕ → List ℕ
view_text words = codes "view" ++ flat_map numbered words ++ codes "\n"

-- no revision was read: the last try began at one number and ended at another
abbrev pub overtaken_text : ℕ → ℕ → List ℕ
overtaken_text at now = codes "overtaken " ++ decimal at ++ codes " " ++ decimal now ++ codes "\n"

-- the journal is full
abbrev pub full_text : List ℕ
full_text = codes "full\n"

-- after how many entries a session begins to be shown them: those that it names, where there are as many, or all of them
abbrev pub first_sent : Option ℕ → ℕ → ℕ
first_sent None entries = entries
first_sent (Some k) entries = min k entries

-- a session follows the journal after its first n entries
abbrev pub following_text : ℕ → List ℕ
following_text n = codes "following " ++ decimal n ++ codes "\n"

-- it follows no longer, and has been shown the entries up to number n
abbrev pub followed_text : ℕ → List ℕ
followed_text n = codes "followed " ++ decimal n ++ codes "\n"

-- after each hundredth entry it is shown how many there are, where a hundred are still to come
abbrev pub is_behind : ℕ → ℕ → Bool
is_behind at now = (at % 100 == 0) && nat_le 100 (now - at)

abbrev pub behind_text : ℕ → ℕ → List ℕ
behind_text at now = if is_behind at now then codes "behind " ++ decimal at ++ codes " " ++ decimal now ++ codes "\n" else []

-- the lines of an entry: its number, its session and its command, and what is shown after it
abbrev pub sent_text : ℕ → ℕ → ℕ → Command → List ℕ
sent_text at now session command = entry_text at session command ++ behind_text at now

-- why no session's end is reported
abbrev pub serve_fault_text : ServeFault → List ℕ
serve_fault_text fault.NoThread = codes "no thread"
serve_fault_text fault.NoMemory = codes "no memory"
