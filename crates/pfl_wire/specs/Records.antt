-- How records are read from the front of bytes, each field after the other (this project's profile).
use Rattle.std.specs.Prelude.{ℕ, Bool, List, Ok, Err}
use Rattle.pfl_base.specs.declared.addr.End.{End}
use Rattle.pfl_base.specs.declared.flow.Key.{Key}
use Rattle.pfl_base.specs.Ends.{proto_of}
use Rattle.pfl_track.specs.declared.key_pair.KeyPair.{KeyPair}
use Rattle.pfl_wire.specs.declared.action.Action.{Action}
use Rattle.pfl_wire.specs.declared.action.Action.TheVariants as action
use Rattle.pfl_wire.specs.declared.message.StateRecord.{StateRecord}
use Rattle.pfl_wire.specs.declared.message.UpdateRecord.{UpdateRecord}
use Rattle.pfl_wire.specs.declared.message.Message.{Message}
use Rattle.pfl_wire.specs.declared.message.Message.TheVariants.{Clear, Insert, InsertAck, Update, UpdateShort, UpdateRequest, Delete, DeleteShort, Bulk}
use Rattle.pfl_wire.specs.Fields.{◌>>=◌, Read, byte_at, number_at, pads_at, name_at, peer_at, ends_at, is_v4_of, dir_of, ack_wanted_of, status_of}
use Rattle.pfl_wire.specs.Fields.{class_at, rule_of}

-- the key of the protocol with the number, between a far end and a near end
abbrev pub key_with : ℕ → End × End → Key
key_with n ends = record { proto = proto_of n; far = ends.0; near = ends.1 }

-- the keys of a state of the protocol with the number, all ends of one family: wire, stack
unfoldable pub keys_at : ℕ → Bool → List ℕ → Read KeyPair
keys_at n v4 bytes = do
  wire ← ends_at v4 bytes
  stack ← ends_at v4 wire.1
  Ok (record { wire = key_with n wire.0; stack = key_with n stack.0 }, stack.1)

-- a whole state
unfoldable pub state_at : List ℕ → Read StateRecord
state_at bytes = do
  name ← name_at bytes
  proto ← byte_at name.1
  family ← byte_at proto.1
  v4 ← is_v4_of family.0
  direction ← byte_at family.1
  dir ← dir_of direction.0
  flags ← byte_at direction.1
  ack_wanted ← ack_wanted_of flags.0
  keys ← keys_at proto.0 v4 flags.1
  src ← peer_at keys.1
  dst ← peer_at src.1
  class ← class_at dst.1
  remaining ← number_at 4 class.1
  rule ← number_at 4 remaining.1
  Ok (
    record {
      name = name.0;
      keys = keys.0;
      direction = dir;
      ack_wanted = ack_wanted;
      src = src.0;
      dst = dst.0;
      class = class.0;
      remaining = remaining.0;
      rule = rule_of rule.0;
    },
    rule.1,
  )

-- what changes of a state
unfoldable pub update_at : List ℕ → Read UpdateRecord
update_at bytes = do
  name ← name_at bytes
  src ← peer_at name.1
  dst ← peer_at src.1
  class ← class_at dst.1
  remaining ← number_at 4 class.1
  Ok (record { name = name.0; src = src.0; dst = dst.0; class = class.0; remaining = remaining.0 }, remaining.1)

-- what is read, as a record
abbrev pub read_as : {X : Type 0} → (X → Message) → Read X → Read Message
read_as make (Ok x) = Ok (make x.0, x.1)
read_as make (Err e) = Err e

-- a clear: creator, bound
unfoldable pub clear_at : List ℕ → Read Message
clear_at bytes = do
  creator ← number_at 4 bytes
  bound ← number_at 8 creator.1
  Ok (Clear creator.0 bound.0, bound.1)

-- a bulk status: creator, status, three pad bytes
unfoldable pub bulk_at : List ℕ → Read Message
bulk_at bytes = do
  creator ← number_at 4 bytes
  number ← byte_at creator.1
  status ← status_of number.0
  pads ← pads_at 3 number.1
  Ok (Bulk creator.0 status, pads)

-- a record of the action
unfoldable pub record_at : Action → List ℕ → Read Message
record_at action.Clear bytes = clear_at bytes
record_at action.Insert bytes = read_as Insert (state_at bytes)
record_at action.InsertAck bytes = read_as InsertAck (name_at bytes)
record_at action.Update bytes = read_as Update (state_at bytes)
record_at action.UpdateShort bytes = read_as UpdateShort (update_at bytes)
record_at action.UpdateRequest bytes = read_as UpdateRequest (name_at bytes)
record_at action.Delete bytes = read_as Delete (state_at bytes)
record_at action.DeleteShort bytes = read_as DeleteShort (name_at bytes)
record_at action.Bulk bytes = bulk_at bytes
