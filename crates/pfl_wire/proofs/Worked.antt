-- Worked cases of a frame, computed.
use Rattle.std.specs.Prelude.{◌≡◌, ℕ, List, [], ◌∷◌, ◌++◌, take, slice_set, refl, Ok, Err}
use Rattle.pfl_wire.specs.declared.fault.BadFrame.TheVariants as bad
use Rattle.pfl_wire.specs.declared.message.Message.TheVariants.{InsertAck}
use Rattle.pfl_wire.specs.Frames.{Frame}
use Rattle.pfl_wire.specs.Spelling.{spelling, record_bytes, group_bytes, name_bytes, number_bytes}
use Rattle.pfl_wire.specs.Reading.{reading}
use Rattle.pfl_wire.proofs.Reading.{computing}

abbrev print : List ℕ
print = 0xd4 ∷ 0x1d ∷ 0x8c ∷ 0xd9 ∷ 0x8f ∷ 0x00 ∷ 0xb2 ∷ 0x04 ∷ 0xe9 ∷ 0x80 ∷ 0x09 ∷ 0x98 ∷ 0xec ∷ 0xf8 ∷ 0x42 ∷ 0x7e ∷ []

abbrev frame : Frame
frame = record { print = print; groups = (InsertAck (record { creator = 1; id = 1 }) ∷ []) ∷ [] }

abbrev bytes : List ℕ
bytes = 5 ∷ 0 ∷ 0 ∷ 36 ∷ print ++ 2 ∷ 0 ∷ 0 ∷ 1 ∷ 0 ∷ 0 ∷ 0 ∷ 0 ∷ 0 ∷ 0 ∷ 0 ∷ 1 ∷ 0 ∷ 0 ∷ 0 ∷ 1 ∷ []

spelled : spelling frame ≡ bytes
unfolding spelling record_bytes group_bytes name_bytes number_bytes
spelled = refl

read : reading bytes ≡ Ok frame
unfolding computing
read = refl

one_short : reading (take 35 bytes) ≡ Err bad.Length
unfolding computing
one_short = refl

nineteen : reading (take 19 bytes) ≡ Err bad.Short
unfolding computing
nineteen = refl

version : reading (slice_set bytes 0 6) ≡ Err bad.Version
unfolding computing
version = refl

pad : reading (slice_set bytes 1 1) ≡ Err bad.Value
unfolding computing
pad = refl

action : reading (slice_set bytes 20 8) ≡ Err bad.Action
unfolding computing
action = refl

no_records : reading (slice_set bytes 23 0) ≡ Err bad.Count
unfolding computing
no_records = refl

two_records : reading (slice_set bytes 23 2) ≡ Err bad.Count
unfolding computing
two_records = refl

one_more : reading (bytes ++ 0 ∷ []) ≡ Err bad.Length
unfolding computing
one_more = refl

one_more_counted : reading (slice_set bytes 3 37 ++ 0 ∷ []) ≡ Err bad.Length
unfolding computing
one_more_counted = refl
