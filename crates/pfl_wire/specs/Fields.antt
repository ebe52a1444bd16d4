-- How the fields of records are read from the front of bytes (this project's profile).
use Rattle.std.specs.Prelude.{ℕ, Bool, true, false, ◌==◌, nat_lt, nat_le, Option, Some, None, List, [], ◌∷◌, length, take, drop, if◌then◌else◌, Result, Ok, Err}
use Rattle.std.specs.List.{list_all}
use Rattle.std.specs.Option.{ok_or}
use Rattle.byteorder.specs.Endian.{big_number}
use Rattle.pfl_base.specs.declared.addr.Addr.{Addr}
use Rattle.pfl_base.specs.declared.addr.Addr.TheVariants.{V4, V6}
use Rattle.pfl_base.specs.declared.addr.End.{End}
use Rattle.pfl_base.specs.declared.direction.Dir.{Dir}
use Rattle.pfl_base.specs.declared.direction.Dir.TheVariants.{Inbound, Outbound}
use Rattle.pfl_base.specs.declared.class.Class.{Class}
use Rattle.pfl_base.specs.declared.state_name.StateName.{StateName}
use Rattle.pfl_base.specs.Classes.{class_of}
use Rattle.pfl_track.specs.declared.peer.Peer.{Peer}
use Rattle.pfl_wire.specs.declared.fault.BadFrame.{BadFrame}
use Rattle.pfl_wire.specs.declared.fault.BadFrame.TheVariants as bad
use Rattle.pfl_wire.specs.declared.message.BulkStatus.{BulkStatus}
use Rattle.pfl_wire.specs.declared.message.BulkStatus.TheVariants.{Start, End as Finish}

infixl 10 ◌>>=◌
-- one step after the other; the first fault stands
abbrev pub ◌>>=◌ : {A B : Type 0} → Result A BadFrame → (A → Result B BadFrame) → Result B BadFrame
(Ok x) >>= f = f x
(Err e) >>= f = Err e

-- what is read: a value and the bytes after it, or the fault
abbrev pub Read : Type 0 → Type 0
Read X = Result (X × List ℕ) BadFrame

-- the fault, unless the test holds
abbrev pub wanted : Bool → BadFrame → Result (Unit {0}) BadFrame
wanted test fault = if test then Ok tt else Err fault

-- a byte; none is missing where a header or a group's count was tested before
abbrev pub byte_at : List ℕ → Read ℕ
byte_at [] = Err bad.Value
byte_at (b ∷ bytes) = Ok (b, bytes)

-- a number of k bytes, the highest first
unfoldable pub number_at : ℕ → List ℕ → Read ℕ
number_at k bytes = if nat_lt (length bytes) k then Err bad.Value else Ok (big_number k bytes, drop k bytes)

-- k pad bytes, and what stands after them
unfoldable pub pads_at : ℕ → List ℕ → Result (List ℕ) BadFrame
pads_at k bytes =
    if nat_lt (length bytes) k then Err bad.Value
    else if list_all (λ b. b == 0) (take k bytes) then Ok (drop k bytes)
    else Err bad.Value

-- a name: id, creator
unfoldable pub name_at : List ℕ → Read StateName
name_at bytes = do
  id ← number_at 8 bytes
  creator ← number_at 4 id.1
  Ok (record { creator = creator.0; id = id.0 }, creator.1)

-- a scale: at most 14, or 255 for none
abbrev pub scale_of : ℕ → Result (Option ℕ) BadFrame
scale_of n = if n == 255 then Ok None else if nat_le n 14 then Ok (Some n) else Err bad.Value

-- an end of a connection: level, scale, window, lo, hi
unfoldable pub peer_at : List ℕ → Read Peer
peer_at bytes = do
  level ← byte_at bytes
  _ ← wanted (nat_le level.0 10) bad.Value
  scale ← byte_at level.1
  scale_is ← scale_of scale.0
  window ← number_at 2 scale.1
  lo ← number_at 4 window.1
  hi ← number_at 4 lo.1
  Ok (record { level = level.0; scale = scale_is; window = window.0; lo = lo.0; hi = hi.0 }, hi.1)

-- an address of IPv4, after which twelve bytes are 0, or of IPv6
unfoldable pub address_at : Bool → List ℕ → Read Addr
address_at true bytes = do
  a ← number_at 4 bytes
  pads ← pads_at 12 a.1
  Ok (V4 a.0, pads)
address_at false bytes = do
  a ← number_at 16 bytes
  Ok (V6 a.0, a.1)

-- an address with a port
unfoldable pub end_at : Bool → List ℕ → Read End
end_at v4 bytes = do
  addr ← address_at v4 bytes
  port ← number_at 2 addr.1
  Ok (record { addr = addr.0; port = port.0 }, port.1)

-- the two ends of a flow: far, near
unfoldable pub ends_at : Bool → List ℕ → Read (End × End)
ends_at v4 bytes = do
  far ← end_at v4 bytes
  near ← end_at v4 far.1
  Ok ((far.0, near.0), near.1)

-- a family: 4 or 6
abbrev pub is_v4_of : ℕ → Result Bool BadFrame
is_v4_of n = if n == 4 then Ok true else if n == 6 then Ok false else Err bad.Value

-- a direction: 1 in, 2 out
abbrev pub dir_of : ℕ → Result Dir BadFrame
dir_of n = if n == 1 then Ok Inbound else if n == 2 then Ok Outbound else Err bad.Value

-- the flags of a state: bit 0 asks for an acknowledgement, and no other is set
abbrev pub ack_wanted_of : ℕ → Result Bool BadFrame
ack_wanted_of n = if n == 0 then Ok false else if n == 1 then Ok true else Err bad.Value

-- a status of a bulk update: 1 start, 2 end
abbrev pub status_of : ℕ → Result BulkStatus BadFrame
status_of n = if n == 1 then Ok Start else if n == 2 then Ok Finish else Err bad.Value

-- a class, and three pad bytes
unfoldable pub class_at : List ℕ → Read Class
class_at bytes = do
  number ← byte_at bytes
  class ← ok_or (class_of number.0) bad.Value
  pads ← pads_at 3 number.1
  Ok (class, pads)

-- a rule: 4294967295 for none
abbrev pub rule_of : ℕ → Option ℕ
rule_of n = if n == 4294967295 then None else Some n
