-- The parts of commands and events, each by one word.
use Rattle.std.specs.Prelude.{ℕ, ◌==◌, List, [], ◌∷◌, codes, bytes_eq, bit_or, if◌then◌else◌, Result, Ok, Err}
use Rattle.std.specs.List.{fold, zip}
use Rattle.std.specs.Option.{option_map_or}
use Rattle.pfl_base.specs.declared.addr.End.{End}
use Rattle.pfl_base.specs.declared.direction.Dir.{Dir}
use Rattle.pfl_base.specs.declared.node_id.NodeId.{NodeId}
use Rattle.pfl_base.specs.declared.proto.Proto.{Proto}
use Rattle.pfl_base.specs.declared.state_name.StateName.{StateName}
use Rattle.pfl_base.specs.Ends.{proto_of as numbered}
use Rattle.pfl_base.specs.Numbers.{greatest}
use Rattle.pfl_base.specs.Words.{dir_at_word, node_at_word, proto_at_word}
use Rattle.pfl_language.specs.BranchWords.{branch_word}
use Rattle.pfl_lines.specs.declared.fault.LineFault.{LineFault}
use Rattle.pfl_lines.specs.declared.fault.LineFault.TheVariants.{Number}
use Rattle.pfl_lines.specs.Readings.{◌>>=◌, Reading, one_word, choice_at}
use Rattle.pfl_lines.specs.Numbers.{number_of, cut_at}
use Rattle.pfl_lines.specs.Addresses.{end_of}

-- a number up to the greatest
abbrev pub number_at : ℕ → List (List ℕ) → Reading ℕ
number_at greatest ws = one_word (number_of greatest) ws

-- an end
abbrev pub end_at : List (List ℕ) → Reading End
end_at ws = one_word end_of ws

-- a node
abbrev pub node_at : List (List ℕ) → Reading NodeId
node_at ws = choice_at node_at_word ws

-- a direction
abbrev pub dir_at : List (List ℕ) → Reading Dir
dir_at ws = choice_at dir_at_word ws

-- a protocol by its number; 6, 17 and 1 are the three with words (RFC 790)
unfoldable pub numbered_proto : List ℕ → Result Proto LineFault
numbered_proto word = do
  n ← number_of 255 word
  Ok (numbered n)

-- a protocol by its word or its number
abbrev pub proto_of : List ℕ → Result Proto LineFault
proto_of word = option_map_or Ok (proto_at_word word) (numbered_proto word)

-- a protocol
abbrev pub proto_at : List (List ℕ) → Reading Proto
proto_at ws = one_word proto_of ws

-- the name of a state: the boot that made it and its number there, as CREATOR.ID
unfoldable pub name_of : List ℕ → Result StateName LineFault
name_of word = do
  parts ← cut_at 46 word
  creator ← number_of greatest parts.0
  id ← number_of 18446744073709551615 parts.1
  Ok (record { creator = creator; id = id })

-- a name
abbrev pub name_at : List (List ℕ) → Reading StateName
name_at ws = one_word name_of ws

-- the letters of the flags in the order in which they are written, each with its flag: FIN, SYN, RST, PSH, ACK and URG (RFC 9293, 3.1)
abbrev pub flag_letters : List (ℕ × ℕ)
flag_letters = zip (codes "FSRPAU") (1 ∷ 2 ∷ 4 ∷ 8 ∷ 16 ∷ 32 ∷ [])

-- the flags with this one, and what follows its letter, where that comes first
abbrev pub with_letter : ℕ × List ℕ → ℕ × ℕ → ℕ × List ℕ
with_letter (flags, []) letter = (flags, [])
with_letter (flags, b ∷ bytes) letter = if b == letter.0 then (bit_or flags letter.1, bytes) else (flags, b ∷ bytes)

-- the flags, where no letter is left
abbrev pub unless_left : ℕ × List ℕ → Result ℕ LineFault
unless_left (flags, []) = Ok flags
unless_left (flags, b ∷ bytes) = Err Number

-- letters of flags in their order, each at most once
unfoldable pub letters_of : List ℕ → Result ℕ LineFault
letters_of word = unless_left (fold with_letter (0, word) flag_letters)

-- flags of TCP: `-` for none, or letters
abbrev pub flags_at_word : List ℕ → Result ℕ LineFault
flags_at_word word = if bytes_eq word (codes "-") then Ok 0 else letters_of word

-- flags
abbrev pub flags_at : List (List ℕ) → Reading ℕ
flags_at ws = one_word flags_at_word ws

-- a branch word of 1 to 32 bytes
abbrev pub branch_at : List (List ℕ) → Reading (List ℕ)
branch_at ws = choice_at branch_word ws
