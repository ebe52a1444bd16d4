-- How frames are spelled (this project's profile): numbers big endian, pad bytes 0.
use Rattle.std.specs.Prelude.{◌≡◌, ℕ, ◌+◌, Bool, Option, List, [], ◌∷◌, ◌++◌, length, replicate, if◌then◌else◌, unwrap_or}
use Rattle.std.specs.List.{flat_map}
use Rattle.byteorder.specs.Endian.{big_bytes}
use Rattle.pfl_base.specs.declared.addr.Addr.{Addr}
use Rattle.pfl_base.specs.declared.addr.Addr.TheVariants.{V4, V6}
use Rattle.pfl_base.specs.declared.addr.End.{End}
use Rattle.pfl_base.specs.declared.direction.Dir.{Dir}
use Rattle.pfl_base.specs.declared.direction.Dir.TheVariants.{Inbound, Outbound}
use Rattle.pfl_base.specs.declared.class.Class.{Class}
use Rattle.pfl_base.specs.declared.flow.Key.{Key}
use Rattle.pfl_base.specs.declared.state_name.StateName.{StateName}
use Rattle.pfl_base.specs.Ends.{proto_number, is_v4}
use Rattle.pfl_base.specs.Classes.{class_number}
use Rattle.pfl_track.specs.declared.key_pair.KeyPair.{KeyPair}
use Rattle.pfl_track.specs.declared.peer.Peer.{Peer}
use Rattle.pfl_wire.specs.declared.message.BulkStatus.{BulkStatus}
use Rattle.pfl_wire.specs.declared.message.BulkStatus.TheVariants.{Start, End as Finish}
use Rattle.pfl_wire.specs.declared.message.StateRecord.{StateRecord}
use Rattle.pfl_wire.specs.declared.message.UpdateRecord.{UpdateRecord}
use Rattle.pfl_wire.specs.declared.message.Message.{Message}
use Rattle.pfl_wire.specs.declared.message.Message.TheVariants.{Clear, Insert, InsertAck, Update, UpdateShort, UpdateRequest, Delete, DeleteShort, Bulk}
use Rattle.pfl_wire.specs.Actions.{action_number}
use Rattle.pfl_wire.specs.Frames.{Frame, IsFrame, action_of}

-- a number in k bytes, the highest first
unfoldable pub number_bytes : ℕ → ℕ → List ℕ
number_bytes k n = big_bytes k n

-- a name, 12 bytes: id, creator
unfoldable pub name_bytes : StateName → List ℕ
name_bytes n = number_bytes 8 n.id ++ number_bytes 4 n.creator

-- a scale: 255 for none
abbrev pub scale_byte : Option ℕ → ℕ
scale_byte scale = unwrap_or scale 255

-- an end of a connection, 12 bytes: level, scale, window, lo, hi
unfoldable pub peer_bytes : Peer → List ℕ
peer_bytes e = (e.level ∷ []) ++ (scale_byte e.scale ∷ []) ++ number_bytes 2 e.window ++ number_bytes 4 e.lo ++ number_bytes 4 e.hi

-- an address, 16 bytes in either family
abbrev pub address_bytes : Addr → List ℕ
address_bytes (V4 a) = number_bytes 4 a ++ replicate 12 0
address_bytes (V6 a) = number_bytes 16 a

-- an address with a port, 18 bytes
unfoldable pub end_bytes : End → List ℕ
end_bytes e = address_bytes e.addr ++ number_bytes 2 e.port

-- the two ends of a flow, 36 bytes: far, near
unfoldable pub key_bytes : Key → List ℕ
key_bytes k = end_bytes k.far ++ end_bytes k.near

-- the keys of a state, 72 bytes: wire, stack
unfoldable pub keys_bytes : KeyPair → List ℕ
keys_bytes k = key_bytes k.wire ++ key_bytes k.stack

-- a family: 4 or 6
abbrev pub family_byte : Addr → ℕ
family_byte a = if is_v4 a then 4 else 6

-- a direction: 1 in, 2 out
abbrev pub dir_byte : Dir → ℕ
dir_byte Inbound = 1
dir_byte Outbound = 2

-- the flags of a state: bit 0 asks for an acknowledgement
abbrev pub flags_byte : Bool → ℕ
flags_byte ack_wanted = if ack_wanted then 1 else 0

-- a class, and three pad bytes
unfoldable pub class_bytes : Class → List ℕ
class_bytes class = (class_number class ∷ []) ++ replicate 3 0

-- a rule: 4294967295 for none
abbrev pub rule_bytes : Option ℕ → List ℕ
rule_bytes rule = number_bytes 4 (unwrap_or rule 4294967295)

-- a whole state, 124 bytes: name, protocol, family, direction, flags, wire key, stack key, source end, destination end, class, remaining seconds, rule
unfoldable pub state_bytes : StateRecord → List ℕ
state_bytes s =
    name_bytes s.name
    ++ (proto_number s.keys.wire.proto ∷ []) ++ (family_byte s.keys.wire.far.addr ∷ []) ++ (dir_byte s.direction ∷ []) ++ (flags_byte s.ack_wanted ∷ [])
    ++ keys_bytes s.keys ++ peer_bytes s.src ++ peer_bytes s.dst ++ class_bytes s.class ++ number_bytes 4 s.remaining ++ rule_bytes s.rule

-- what changes of a state, 44 bytes: name, source end, destination end, class, remaining seconds
unfoldable pub update_bytes : UpdateRecord → List ℕ
update_bytes u = name_bytes u.name ++ peer_bytes u.src ++ peer_bytes u.dst ++ class_bytes u.class ++ number_bytes 4 u.remaining

-- a status of a bulk update: 1 start, 2 end
abbrev pub status_byte : BulkStatus → ℕ
status_byte Start = 1
status_byte Finish = 2

-- a record
unfoldable pub record_bytes : Message → List ℕ
record_bytes (Clear creator bound) = number_bytes 4 creator ++ number_bytes 8 bound
record_bytes (Insert s) = state_bytes s
record_bytes (InsertAck name) = name_bytes name
record_bytes (Update s) = state_bytes s
record_bytes (UpdateShort u) = update_bytes u
record_bytes (UpdateRequest name) = name_bytes name
record_bytes (Delete s) = state_bytes s
record_bytes (DeleteShort name) = name_bytes name
record_bytes (Bulk creator status) = number_bytes 4 creator ++ (status_byte status ∷ []) ++ replicate 3 0

-- a group: the action, a pad byte, the number of records, and the records
unfoldable pub group_bytes : List Message → List ℕ
group_bytes [] = []
group_bytes (m ∷ ms) = (action_number (action_of m) ∷ []) ++ (0 ∷ []) ++ number_bytes 2 (length (m ∷ ms)) ++ flat_map record_bytes (m ∷ ms)

-- a frame: the version, a pad byte, the length of the whole, the checksum, and the groups
unfoldable pub spelling : Frame → List ℕ
spelling f =
    let body = flat_map group_bytes f.groups in
    (5 ∷ []) ++ (0 ∷ []) ++ number_bytes 2 (20 + length body) ++ f.print ++ body

-- the bytes spell the frame
pub record Spells (bytes : List ℕ) (f : Frame) : Type 0 where
  pub is_frame : IsFrame f
  pub spelled : bytes ≡ spelling f
