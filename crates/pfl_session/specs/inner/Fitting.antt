-- Which entries fit in few bytes.
use Rattle.std.specs.Prelude.{ℕ, Bool, false, ◌||◌, nat_lt, List, length, Option, Some, None, if◌then◌else◌}
use Rattle.pfl_language.specs.declared.command.Command.{Command}
use Rattle.pfl_language.specs.declared.command.Command.TheVariants as command
use Rattle.pfl_timeline.specs.Replies.{Reply}
use Rattle.pfl_timeline.specs.Sizes.{is_large}

-- the word has more bytes than the name of a branch may have
abbrev pub is_long : List ℕ → Bool
is_long word = nat_lt 16 (length word)

-- the word, unless it is long
abbrev pub short_word : List ℕ → Option (List ℕ)
short_word word = if is_long word then None else Some word

-- a word of the command is long
abbrev pub has_long_word : Command → Bool
has_long_word (command.On name q) = is_long name
has_long_word (command.Fork from k name) = is_long from || is_long name
has_long_word (command.Drop name) = is_long name
has_long_word command.Names = false

-- an entry of this command and this reply does not fit, and is kept as it is in a box
abbrev pub is_kept_whole : Command → Reply → Bool
is_kept_whole c reply = has_long_word c || is_large reply
