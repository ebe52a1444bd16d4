-- The first line of an HTTP request (RFC 9112, section 3): a method, one space, a target, one space and the version. Any word can be a method,
-- also one of a session's. Where a browser itself connects, its target begins with a slash and has no space, and its version is HTTP/1.1.
use Rattle.std.specs.Prelude.{ℕ, Bool, true, false, ◌&&◌, ◌||◌, ◌==◌, nat_lt, List, [], ◌∷◌, length, take, drop, bytes_eq, codes, Option, Some, None, if◌then◌else◌}
use Rattle.std.specs.Char.{is_ascii_digit}
use Rattle.std.specs.List.{prefix_len}
use Rattle.std.specs.Option.{unwrap_or}

-- the words that a line of a session begins with (docs/FORMATS.md)
abbrev pub is_command : List ℕ → Bool
is_command word =
    bytes_eq word (codes "step") || bytes_eq word (codes "back") || bytes_eq word (codes "forward") || bytes_eq word (codes "fork")
    || bytes_eq word (codes "drop") || bytes_eq word (codes "show") || bytes_eq word (codes "past") || bytes_eq word (codes "why")
    || bytes_eq word (codes "frame") || bytes_eq word (codes "names") || bytes_eq word (codes "excise") || bytes_eq word (codes "restore")
    || bytes_eq word (codes "log") || bytes_eq word (codes "view") || bytes_eq word (codes "setup") || bytes_eq word (codes "follow")

-- a comment begins with the word
abbrev pub is_comment : List ℕ → Bool
is_comment [] = false
is_comment (b ∷ bytes) = b == 35

-- a byte of a word: it is printed, and is no space
abbrev pub is_word_byte : ℕ → Bool
is_word_byte b = nat_lt 32 b && nat_lt b 127

-- how many bytes the word has that bytes begin with
abbrev pub word_length : List ℕ → ℕ
word_length = prefix_len is_word_byte

-- bytes begin with a text, as far as they say
abbrev pub begins : List ℕ → List ℕ → Option Bool
begins [] bytes = Some true
begins (c ∷ text) [] = None
begins (c ∷ text) (b ∷ bytes) = if b == c then begins text bytes else Some false

-- the line ends
abbrev pub judged_end : List ℕ → Option Bool
judged_end [] = None
judged_end (b ∷ bytes) = Some (b == 13 || b == 10)

-- a digit, and then the line ends
abbrev pub judged_digit : List ℕ → Option Bool
judged_digit [] = None
judged_digit (b ∷ bytes) = if is_ascii_digit b then judged_end bytes else Some false

-- what is known of the first part decides, unless that is there: then the second one does
abbrev pub judged_then : Option Bool → Option Bool → Option Bool
judged_then None second = None
judged_then (Some false) second = Some false
judged_then (Some true) second = second

-- a space and a version of HTTP, with which the line ends
abbrev pub judged_version : List ℕ → Option Bool
judged_version bytes = judged_then (begins (codes " HTTP/1.") bytes) (judged_digit (drop 8 bytes))

-- the target begins with a slash. That is enough after a word with which no line of a session begins; after another one it goes on as a word,
-- and a version ends the line
abbrev pub judged_target : List ℕ → List ℕ → Option Bool
judged_target word [] = None
judged_target word (b ∷ bytes) =
    if b == 47 then (if is_comment word || is_command word then judged_version (drop (word_length bytes) bytes) else Some true) else Some false

-- one space comes after a word, and then a target; without a byte after it the word may go on
abbrev pub judged_after : List ℕ → List ℕ → Option Bool
judged_after word [] = None
judged_after word (b ∷ bytes) = if nat_lt 0 (length word) && b == 32 then judged_target word bytes else Some false

-- bytes begin the line of a request, however long, as far as they say
abbrev pub judged_line : List ℕ → Option Bool
judged_line bytes = judged_after (take (word_length bytes) bytes) (drop (word_length bytes) bytes)

-- bytes begin a request, as far as they say. No line of a session has more than 512 bytes, so the first 513 decide: if they may still begin a
-- request, they do
unfoldable pub judged : List ℕ → Option Bool
judged bytes = if nat_lt (length bytes) 513 then judged_line bytes else Some (unwrap_or (judged_line (take 513 bytes)) true)

-- bytes begin a request
abbrev pub is_request : List ℕ → Bool
is_request bytes = unwrap_or (judged bytes) false
