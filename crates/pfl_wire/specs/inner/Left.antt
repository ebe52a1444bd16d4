-- What is left to read of a frame in its bytes.
use Rattle.std.specs.Prelude.{ℕ, List, [], ◌∷◌, ◌++◌, length, Result, Ok, Err}
use Rattle.pfl_wire.specs.declared.fault.BadFrame.{BadFrame}
use Rattle.pfl_wire.specs.declared.message.Message.{Message}
use Rattle.pfl_wire.specs.declared.subheader.Subheader.{Subheader}
use Rattle.pfl_wire.specs.Fields.{◌>>=◌}
use Rattle.pfl_wire.specs.Frames.{all_of}
use Rattle.pfl_wire.specs.Reading.{records_at, groups_at}

-- the groups that the bytes spell
unfoldable pub groups_in : List ℕ → Result (List (List Message)) BadFrame
groups_in bytes = do
  groups ← groups_at (length bytes) bytes
  Ok groups.0

-- the records that are left: those of the group that is read, and those of the groups after it
unfoldable pub left_at : Subheader → List ℕ → Result (List Message) BadFrame
left_at group bytes = do
  records ← records_at group.action group.count bytes
  groups ← groups_in records.1
  Ok (records.0 ++ all_of groups)

-- what was read, where nothing is at fault
abbrev pub listed : {X : Type 0} → Result (List X) BadFrame → List X
listed (Ok xs) = xs
listed (Err e) = []

-- a record, and those after it
abbrev pub led_by : {X : Type 0} → X → Result (List X) BadFrame → Result (List X) BadFrame
led_by x rest = rest >>= λ xs. Ok (x ∷ xs)
