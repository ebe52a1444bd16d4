-- Frames, and which of them have a spelling (this project's profile; the messages are those of if_pfsync.h).
use Rattle.std.specs.Prelude.{◌≡◌, ◌<◌, ℕ, map, Vec, ◌-◌, ◌+◌, ◌^◌, List, [], ◌∷◌, length, IfSome}
use Rattle.std.specs.List.{AllByRecursion, flat_map, sum_by}
use Rattle.pfl_base.specs.declared.addr.Addr.{Addr}
use Rattle.pfl_base.specs.declared.addr.Addr.TheVariants.{V4, V6}
use Rattle.pfl_base.specs.declared.addr.End.{End}
use Rattle.pfl_base.specs.declared.flow.Key.{Key}
use Rattle.pfl_base.specs.declared.state_name.StateName.{StateName}
use Rattle.pfl_base.specs.Ends.{proto_number}
use Rattle.pfl_track.specs.declared.key_pair.KeyPair.{KeyPair}
use Rattle.pfl_track.specs.declared.peer.Peer.{Peer}
use Rattle.pfl_track.specs.Keys.{AreKeys}
use Rattle.pfl_track.specs.Peers.{IsPeer}
use Rattle.pfl_wire.specs.declared.action.Action.{Action}
use Rattle.pfl_wire.specs.declared.action.Action.TheVariants as action
use Rattle.pfl_wire.specs.declared.message.StateRecord.{StateRecord}
use Rattle.pfl_wire.specs.declared.message.UpdateRecord.{UpdateRecord}
use Rattle.pfl_wire.specs.declared.message.Message.{Message}
use Rattle.pfl_wire.specs.declared.message.Message.TheVariants.{Clear, Insert, InsertAck, Update, UpdateShort, UpdateRequest, Delete, DeleteShort, Bulk}
use Rattle.pfl_wire.specs.Actions.{record_len}

-- a frame: the checksum of the sender's rules, and groups of records
pub record Frame : Type 0 where
  pub print : List ℕ
  pub groups : List (List Message)

-- the records in vectors, without where they lie
abbrev pub lists : {A : Type 0} → List (Vec Message A) → List (List Message)
lists {A = A} groups = map (λ (g : Vec Message A). g.items) groups

-- the records of groups, one after another
abbrev pub all_of : List (List Message) → List Message
all_of groups = flat_map (λ group. group) groups

-- the records of a frame
abbrev pub records_of : Frame → List Message
records_of f = all_of f.groups

-- what a record is for (if_pfsync.h)
abbrev pub action_of : Message → Action
action_of (Clear creator bound) = action.Clear
action_of (Insert s) = action.Insert
action_of (InsertAck name) = action.InsertAck
action_of (Update s) = action.Update
action_of (UpdateShort u) = action.UpdateShort
action_of (UpdateRequest name) = action.UpdateRequest
action_of (Delete s) = action.Delete
action_of (DeleteShort name) = action.DeleteShort
action_of (Bulk creator status) = action.Bulk

-- ---- what has a spelling: each number within its field, and what is spelled once equal

-- a name
pub record FitsName (n : StateName) : Type 0 where
  pub creator : n.creator < 2 ^ 32
  pub id : n.id < 2 ^ 64

-- an address
abbrev pub FitsAddr : Addr → Type 0
FitsAddr (V4 a) = a < 2 ^ 32
FitsAddr (V6 a) = a < 2 ^ 128

-- an address with a port
pub record FitsEnd (e : End) : Type 0 where
  pub addr : FitsAddr e.addr
  pub port : e.port < 2 ^ 16

-- the two ends of a flow
pub record FitsKey (k : Key) : Type 0 where
  pub far : FitsEnd k.far
  pub near : FitsEnd k.near

-- the keys of a state; they are of one protocol and one family, each of which is written once
pub record FitsKeys (k : KeyPair) : Type 0 where
  pub are : AreKeys k.wire k.stack
  pub wire : FitsKey k.wire
  pub stack : FitsKey k.stack

-- an end of a connection
pub record FitsPeer (e : Peer) : Type 0 where
  pub is : IsPeer e
  pub window : e.window < 2 ^ 16
  pub lo : e.lo < 2 ^ 32
  pub hi : e.hi < 2 ^ 32

-- a whole state
pub record FitsState (s : StateRecord) : Type 0 where
  pub name : FitsName s.name
  pub proto : proto_number s.keys.wire.proto < 2 ^ 8
  pub keys : FitsKeys s.keys
  pub src : FitsPeer s.src
  pub dst : FitsPeer s.dst
  pub remaining : s.remaining < 2 ^ 32
  pub rule : IfSome s.rule (λ n. n < 2 ^ 32 - 1)

-- what changes of a state
pub record FitsUpdate (u : UpdateRecord) : Type 0 where
  pub name : FitsName u.name
  pub src : FitsPeer u.src
  pub dst : FitsPeer u.dst
  pub remaining : u.remaining < 2 ^ 32

-- a record
abbrev pub FitsMessage : Message → Type 0
FitsMessage (Clear creator bound) = (creator < 2 ^ 32) × (bound < 2 ^ 64)
FitsMessage (Insert s) = FitsState s
FitsMessage (InsertAck name) = FitsName name
FitsMessage (Update s) = FitsState s
FitsMessage (UpdateShort u) = FitsUpdate u
FitsMessage (UpdateRequest name) = FitsName name
FitsMessage (Delete s) = FitsState s
FitsMessage (DeleteShort name) = FitsName name
FitsMessage (Bulk creator status) = creator < 2 ^ 32

-- a group: at least one record, and no more than a group can count, all of one action, and each as wanted
abbrev pub IsGroupOf : (Message → Type 0) → List Message → Type 0
IsGroupOf P [] = ⊥
IsGroupOf P (m ∷ ms) = (length (m ∷ ms) < 2 ^ 16) × AllByRecursion (λ n. action_of n ≡ action_of m) ms × AllByRecursion P (m ∷ ms)

-- a group of records that have a spelling
abbrev pub IsGroup : List Message → Type 0
IsGroup ms = IsGroupOf FitsMessage ms

-- the bytes of a group: 4, and those of its records
abbrev pub group_len : List Message → ℕ
group_len ms = 4 + sum_by (λ m. record_len (action_of m)) ms

-- the bytes of a frame: 20, and those of its groups
abbrev pub frame_len : List (List Message) → ℕ
frame_len groups = 20 + sum_by group_len groups

-- a frame that has a spelling
pub record IsFrame (f : Frame) : Type 0 where
  pub print : length f.print ≡ 16
  pub print_bytes : AllByRecursion (λ b. b < 256) f.print
  pub groups : AllByRecursion IsGroup f.groups
  pub short : frame_len f.groups < 2 ^ 16

-- ---- what of it the types of the fields leave open

-- a state's rule has not the number that stands for none
abbrev pub RuleFits : Message → Type 0
RuleFits (Insert s) = IfSome s.rule (λ n. n < 2 ^ 32 - 1)
RuleFits (Update s) = IfSome s.rule (λ n. n < 2 ^ 32 - 1)
RuleFits (Delete s) = IfSome s.rule (λ n. n < 2 ^ 32 - 1)
RuleFits _ = Unit {0}

-- a frame that can be sent
pub record IsSendable (f : Frame) : Type 0 where
  pub groups : AllByRecursion (IsGroupOf RuleFits) f.groups
  pub short : frame_len f.groups < 2 ^ 16
