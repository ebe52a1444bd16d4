-- Worked cases of records, computed: what becomes of each at a new node.
use Rattle.std.specs.Prelude.{◌≡◌, ℕ, Bool, true, false, List, [], ◌∷◌, map, Option, None, Some, replicate, refl}
use Rattle.pfl_base.specs.declared.addr.Addr.TheVariants.{V4}
use Rattle.pfl_base.specs.declared.proto.Proto.TheVariants.{Udp}
use Rattle.pfl_base.specs.declared.direction.Dir.TheVariants.{Outbound}
use Rattle.pfl_base.specs.declared.class.Class.TheVariants.{UdpFirst}
use Rattle.pfl_base.specs.declared.flow.Key.{Key}
use Rattle.pfl_base.specs.declared.state_name.StateName.{StateName}
use Rattle.pfl_base.specs.Kernels.{profile}
use Rattle.pfl_bulk.specs.declared.BulkClient.TheVariants as client
use Rattle.pfl_edits.proofs.ForCallers as map_lemmas
use Rattle.pfl_language.specs.Limits.{default_limits}
use Rattle.pfl_track.specs.declared.peer.Peer.{Peer}
use Rattle.pfl_track.specs.Tracking.{silent}
use Rattle.pfl_wire.specs.declared.message.BulkStatus.TheVariants.{Start, End as Finish}
use Rattle.pfl_wire.specs.declared.message.Message.{Message}
use Rattle.pfl_wire.specs.declared.message.Message.TheVariants.{Bulk, Insert, InsertAck, UpdateShort, UpdateRequest, DeleteShort, Clear}
use Rattle.pfl_world.specs.desk.Changes as changes
use Rattle.pfl_world.specs.desk.Nodes.{Node, new_node}
use Rattle.pfl_world.specs.receive.declared.decision.BadRecord.TheVariants as bad
use Rattle.pfl_world.specs.receive.Receiving as receiving
use Rattle.pfl_reasons.specs.Records as records
use Rattle.pfl_reasons.specs.Records.{fates}
use Rattle.pfl_reasons.specs.declared.record_fate.RecordFate.{RecordFate}
use Rattle.pfl_reasons.specs.declared.record_fate.RecordFate.TheVariants as fate
use Rattle.pfl_reasons.specs.declared.record_fate.TakenEnds.{TakenEnds}

abbrev name : ℕ → ℕ → StateName
name creator id = record { creator = creator; id = id }

-- a new node of creator 1 without rules, a minute after it began; 16 equal bytes stand for the checksum
abbrev fresh : Node
fresh = new_node default_limits (record { list = []; timeouts = replicate 14 None; print = replicate 16 7 }) 1 1 60000

-- a query of 10.0.0.1:1000 to 192.0.2.9:53
abbrev flow : Key
flow = record { proto = Udp; far = record { addr = V4 0xc0000209; port = 53 }; near = record { addr = V4 0x0a000001; port = 1000 } }

-- the whole state of the query under a name, with half of its minute left, which asks for an acknowledgement
abbrev insertion : StateName → Message
insertion of = Insert (record {
  name = of;
  keys = record { wire = flow; stack = flow };
  direction = Outbound;
  ack_wanted = true;
  src = silent;
  dst = silent;
  class = UdpFirst;
  remaining = 30;
  rule = None;
})

-- a part of the state, of which a third of the minute is left
abbrev update : StateName → Peer → Message
update of src = UpdateShort (record { name = of; src = src; dst = silent; class = UdpFirst; remaining = 20 })

-- a part of it with both ends
abbrev both : Peer → Peer → Message
both src dst = UpdateShort (record { name = name 2 1; src = src; dst = dst; class = UdpFirst; remaining = 20 })

-- an end that has been heard
abbrev heard : Peer
heard = record { level = 1; scale = None; window = 0; lo = 0; hi = 0 }

-- what becomes of the records of a frame that comes to the new node
abbrev become : List Message → List RecordFate
become messages = map (λ t. t.fate) (fates fresh true messages)

unfoldable computing : ℕ
unfolding map_lemmas.computing receiving.decided receiving.does receiving.taken changes.changed changes.forgotten records.fates
computing = 0

-- a state of the peer's is taken over; the same once more is known
taken_over : become (insertion (name 2 1) ∷ insertion (name 2 1) ∷ []) ≡ fate.Imported 30000 ∷ fate.Bad bad.Known ∷ []
unfolding computing
taken_over = refl

-- the same keys under another name are in use
keys_in_use : become (insertion (name 2 1) ∷ insertion (name 2 2) ∷ []) ≡ fate.Imported 30000 ∷ fate.Bad (bad.WireInUse (name 2 1)) ∷ []
unfolding computing
keys_in_use = refl

-- a name that the node itself would give
own_name : become (insertion (name 1 1) ∷ []) ≡ fate.Bad bad.NotGiven ∷ []
unfolding computing
own_name = refl

-- a part of a state that is not known: the whole of it is asked for
asked_for : become (update (name 2 1) heard ∷ []) ≡ fate.Asked ∷ []
unfolding computing
asked_for = refl

-- an end that is further is taken, and then the former one is older
merged : become (insertion (name 2 1) ∷ update (name 2 1) heard ∷ update (name 2 1) silent ∷ []) ≡ fate.Imported 30000
    ∷ fate.Merged false false 20000 None ∷ fate.Merged true false 20000 None ∷ []
unfolding computing
merged = refl

-- parts of the state with both ends, one after another
abbrev updates : List Message
updates = insertion (name 2 1) ∷ both silent heard ∷ both heard silent ∷ both silent heard ∷ both silent silent ∷ []

-- the second destination is older than the first, the third source than the second, and then both are: what is older stays
newer_ends_stay : become updates ≡ fate.Imported 30000 ∷ fate.Merged false false 20000 None ∷ fate.Merged false true 20000 None
    ∷ fate.Merged true false 20000 None ∷ fate.Merged true true 20000 None ∷ []
unfolding computing
newer_ends_stay = refl

abbrev takes : Bool → Bool → Option TakenEnds
takes src dst = Some (record { src = src; dst = dst })

-- by the kernel's rule the destination is taken with the source; and where the source alone is older, it is taken too
destination_goes_along : map (λ t. t.fate) (fates (record fresh { limits = record default_limits { kernel = record profile { merge = true } } }) true updates)
    ≡ fate.Imported 30000 ∷ fate.Merged false false 20000 (takes true true) ∷ fate.Merged false true 20000 (takes true true)
    ∷ fate.Merged true false 20000 (takes false true) ∷ fate.Merged true true 20000 (takes false false) ∷ []
unfolding computing
destination_goes_along = refl

-- the whole state with more left than its minute
abbrev longer : Message
longer = Insert (record {
  name = name 2 1;
  keys = record { wire = flow; stack = flow };
  direction = Outbound;
  ack_wanted = true;
  src = silent;
  dst = silent;
  class = UdpFirst;
  remaining = 90;
  rule = None;
})

-- by the profile it is used now, and the merge counts back
not_ahead : become (longer ∷ update (name 2 1) heard ∷ []) ≡ fate.Imported 60000 ∷ fate.Merged false false 20000 None ∷ []
unfolding computing
not_ahead = refl

-- by the kernel's rule its last use lies ahead, and the merge is a use now
ahead : map (λ t. t.fate) (fates (record fresh { limits = record default_limits { kernel = record profile { expiry = true } } }) true
    (longer ∷ update (name 2 1) heard ∷ [])) ≡ fate.Imported 90000 ∷ fate.Merged false false 60000 None ∷ []
unfolding computing
ahead = refl

-- requests for all states, for one and for one that is not there, and deletions
asked_and_deleted : become (UpdateRequest (name 0 0) ∷ insertion (name 2 1) ∷ UpdateRequest (name 2 1) ∷ UpdateRequest (name 2 1)
    ∷ UpdateRequest (name 2 2) ∷ DeleteShort (name 2 1) ∷ DeleteShort (name 2 1) ∷ [])
    ≡ fate.Bulk false ∷ fate.Imported 30000 ∷ fate.Queued ∷ fate.Nothing ∷ fate.Bad bad.Unknown ∷ fate.Deleted ∷ fate.Bad bad.Unknown ∷ []
unfolding computing
asked_and_deleted = refl

-- a clear of a creator's states up to a bound
cleared : become (insertion (name 2 5) ∷ Clear 2 4 ∷ Clear 2 5 ∷ InsertAck (name 2 5) ∷ []) ≡ fate.Imported 30000 ∷ fate.Cleared 0
    ∷ fate.Cleared 1 ∷ fate.Nothing ∷ []
unfolding computing
cleared = refl

-- a bulk status is heard by a client that waits, which the end makes idle; an idle one does not hear it
status_heard : map (λ t. t.fate)
    (fates (record fresh { client = client.Waiting 1 60000 }) true (Bulk 2 Start ∷ Bulk 2 Finish ∷ Bulk 2 Start ∷ [])) ≡ fate.Heard
    ∷ fate.Heard ∷ fate.Nothing ∷ []
unfolding computing
status_heard = refl
