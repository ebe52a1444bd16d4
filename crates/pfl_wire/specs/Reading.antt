-- How bytes are read as a frame, with the first fault in reading order (this project's profile).
use Rattle.std.specs.Prelude.{ℕ, zero, suc, ◌*◌, Bool, ◌&&◌, ◌==◌, nat_lt, nat_le, List, [], ◌∷◌, length, take, drop, if◌then◌else◌, Result, Ok, Err}
use Rattle.std.specs.Option.{ok_or}
use Rattle.pfl_wire.specs.declared.action.Action.{Action}
use Rattle.pfl_wire.specs.declared.fault.BadFrame.{BadFrame}
use Rattle.pfl_wire.specs.declared.fault.BadFrame.TheVariants as bad
use Rattle.pfl_wire.specs.declared.message.Message.{Message}
use Rattle.pfl_wire.specs.declared.subheader.Subheader.{Subheader}
use Rattle.pfl_wire.specs.Actions.{action_with, record_len}
use Rattle.pfl_wire.specs.Frames.{Frame}
use Rattle.pfl_wire.specs.Fields.{◌>>=◌, Read, wanted, byte_at, number_at}
use Rattle.pfl_wire.specs.Records.{record_at}

-- n records of the action
unfoldable pub records_at : Action → ℕ → List ℕ → Read (List Message)
records_at a zero bytes = Ok ([], bytes)
records_at a (suc n) bytes = do
  first ← record_at a bytes
  rest ← records_at a n first.1
  Ok (first.0 ∷ rest.0, rest.1)

-- the count is not 0, and the records that it counts are there
abbrev pub is_counted : Action → ℕ → List ℕ → Bool
is_counted a n rest = nat_lt 0 n && nat_le (n * record_len a) (length rest)

-- the four bytes in front of a group's records: the action, the pad byte, and the count of the records, which are there
unfoldable pub subheader_at : List ℕ → Read Subheader
subheader_at bytes = do
  _ ← wanted (nat_le 4 (length bytes)) bad.Length
  number ← byte_at bytes
  a ← ok_or (action_with number.0) bad.Action
  pad ← byte_at number.1
  count ← number_at 2 pad.1
  _ ← wanted (is_counted a count.0 count.1) bad.Count
  _ ← wanted (pad.0 == 0) bad.Value
  Ok (record { action = a; count = count.0 }, count.1)

-- a group: the subheader, and the records
unfoldable pub group_at : List ℕ → Read (List Message)
group_at bytes = do
  group ← subheader_at bytes
  records_at group.0.action group.0.count group.1

-- groups to the end; each takes a byte at least, so that as many as there are bytes suffice
unfoldable pub groups_at : ℕ → List ℕ → Read (List (List Message))
groups_at fuel [] = Ok ([], [])
groups_at zero (b ∷ bytes) = Err bad.Length
groups_at (suc fuel) (b ∷ bytes) = do
  first ← group_at (b ∷ bytes)
  rest ← groups_at fuel first.1
  Ok (first.0 ∷ rest.0, rest.1)

-- the checksum
unfoldable pub print_at : List ℕ → Read (List ℕ)
print_at bytes = if nat_lt (length bytes) 16 then Err bad.Short else Ok (take 16 bytes, drop 16 bytes)

-- the header: twenty bytes, the version, the length of the whole, the pad byte, and the checksum
unfoldable pub header_at : List ℕ → Read (List ℕ)
header_at bytes = do
  _ ← wanted (nat_le 20 (length bytes)) bad.Short
  version ← byte_at bytes
  _ ← wanted (version.0 == 5) bad.Version
  pad ← byte_at version.1
  len ← number_at 2 pad.1
  _ ← wanted (len.0 == length bytes) bad.Length
  _ ← wanted (pad.0 == 0) bad.Value
  print_at len.1

-- the frame that the bytes spell, or the first fault
unfoldable pub reading : List ℕ → Result Frame BadFrame
reading bytes = do
  print ← header_at bytes
  groups ← groups_at (length print.1) print.1
  Ok (record { print = print.0; groups = groups.0 })
