-- What is read of a frame are records of states and ends, whatever the numbers are that it is read from.
use Rattle.std.specs.Prelude.{◌≡◌, ℕ, zero, suc, Bool, true, false, nat_le, List, [], ◌∷◌, ◌++◌, length, Ok, Err, refl}
use Rattle.std.specs.List.{AllByRecursion, flat_map}
use Rattle.std.proofs.Common.{ap, subst}
use Rattle.pfl_base.specs.declared.addr.Addr.{Addr}
use Rattle.pfl_base.specs.declared.addr.Addr.TheVariants.{V4, V6}
use Rattle.pfl_base.specs.declared.addr.End.{End}
use Rattle.pfl_base.specs.Ends.{is_v4, proto_of}
use Rattle.pfl_world.specs.track.declared.key_pair.KeyPair.{KeyPair}
use Rattle.pfl_world.specs.track.declared.peer.Peer.{Peer}
use Rattle.pfl_world.specs.track.Keys.{AreKeys}
use Rattle.pfl_world.specs.track.Peers.{IsPeer}
use Rattle.pfl_world.specs.wire.declared.action.Action.{Action}
use Rattle.pfl_world.specs.wire.declared.action.Action.TheVariants as action
use Rattle.pfl_world.specs.wire.declared.fault.BadFrame.TheVariants as bad
use Rattle.pfl_world.specs.wire.declared.message.Message.{Message}
use Rattle.pfl_world.specs.wire.declared.message.Message.TheVariants as message
use Rattle.pfl_world.specs.wire.declared.message.StateRecord.{StateRecord}
use Rattle.pfl_world.specs.wire.declared.message.UpdateRecord.{UpdateRecord}
use Rattle.pfl_world.specs.wire.Frames.{Frame, records_of}
use Rattle.pfl_world.specs.wire.Fields.{Read, wanted, byte_at, number_at, pads_at, name_at, scale_of, peer_at, address_at, end_at, ends_at, class_at}
use Rattle.pfl_world.specs.wire.Fields.{is_v4_of, dir_of, ack_wanted_of, status_of, rule_of}
use Rattle.pfl_world.specs.wire.Records.{key_with, keys_at, state_at, update_at, clear_at, bulk_at, read_as, record_at}
use Rattle.pfl_world.specs.wire.Reading.{records_at, subheader_at, group_at, groups_at, header_at, reading}
use Rattle.pfl_world.proofs.ForCallers.wire.{bind_then, wanted_ok, ok_is, le_from, scale_back, proto_back, one_family}

-- a whole state's record
pub record IsWhole (r : StateRecord) : Type 0 where
  pub src : IsPeer r.src
  pub dst : IsPeer r.dst
  pub keys : AreKeys r.keys.wire r.keys.stack

-- a record from which a state is made or changed
abbrev pub IsRecord : Message → Type 0
IsRecord (message.Insert r) = IsWhole r
IsRecord (message.Update r) = IsWhole r
IsRecord (message.UpdateShort u) = IsPeer u.src × IsPeer u.dst
IsRecord _ = Unit {0}

-- ---- fields

peer-is : (bytes : List ℕ) (x : Peer × List ℕ) → peer_at bytes ≡ Ok x → IsPeer x.0
unfolding peer_at
peer-is bytes x e =
    bind_then (byte_at bytes) _ x e (λ level level_is e1.
    bind_then (wanted (nat_le level.0 10) bad.Value) _ x e1 (λ low low_is e2.
    bind_then (byte_at level.1) _ x e2 (λ number number_is e3.
    bind_then (scale_of number.0) _ x e3 (λ scale scale_is e4.
    bind_then (number_at 2 number.1) _ x e4 (λ window window_is e5.
    bind_then (number_at 4 window.1) _ x e5 (λ lo lo_is e6.
    bind_then (number_at 4 lo.1) _ x e6 (λ hi hi_is e7.
    let made : Peer × List ℕ = (record { level = level.0; scale = scale; window = window.0; lo = lo.0; hi = hi.0 }, hi.1) in
    subst (λ (y : Peer × List ℕ). IsPeer y.0) (ok_is made x e7)
    (record { level = le_from _ _ (wanted_ok _ _ _ low_is); scale = (scale_back number.0 scale scale_is).1 }))))))))

address-is : (v4 : Bool) (bytes : List ℕ) (x : Addr × List ℕ) → address_at v4 bytes ≡ Ok x → is_v4 x.0 ≡ v4
unfolding address_at
address-is true bytes x e =
    bind_then (number_at 4 bytes) _ x e (λ number number_is e1.
    bind_then (pads_at 12 number.1) _ x e1 (λ pads pads_is e2.
    let made : Addr × List ℕ = (V4 number.0, pads) in
    subst (λ (y : Addr × List ℕ). is_v4 y.0 ≡ true) (ok_is made x e2) refl))
address-is false bytes x e =
    bind_then (number_at 16 bytes) _ x e (λ number number_is e1.
    let made : Addr × List ℕ = (V6 number.0, number.1) in
    subst (λ (y : Addr × List ℕ). is_v4 y.0 ≡ false) (ok_is made x e1) refl)

end-is : (v4 : Bool) (bytes : List ℕ) (x : End × List ℕ) → end_at v4 bytes ≡ Ok x → is_v4 x.0.addr ≡ v4
unfolding end_at
end-is v4 bytes x e =
    bind_then (address_at v4 bytes) _ x e (λ addr addr_is e1.
    bind_then (number_at 2 addr.1) _ x e1 (λ port port_is e2.
    let made : End × List ℕ = (record { addr = addr.0; port = port.0 }, port.1) in
    subst (λ (y : End × List ℕ). is_v4 y.0.addr ≡ v4) (ok_is made x e2) (address-is v4 bytes addr addr_is)))

ends-are : (v4 : Bool) (bytes : List ℕ) (x : (End × End) × List ℕ) → ends_at v4 bytes ≡ Ok x → (is_v4 x.0.0.addr ≡ v4) × (is_v4 x.0.1.addr ≡ v4)
unfolding ends_at
ends-are v4 bytes x e =
    bind_then (end_at v4 bytes) _ x e (λ far far_is e1.
    bind_then (end_at v4 far.1) _ x e1 (λ near near_is e2.
    let made : (End × End) × List ℕ = ((far.0, near.0), near.1) in
    subst (λ (y : (End × End) × List ℕ). (is_v4 y.0.0.addr ≡ v4) × (is_v4 y.0.1.addr ≡ v4)) (ok_is made x e2)
    (end-is v4 bytes far far_is, end-is v4 far.1 near near_is)))

keys-are : (n : ℕ) (v4 : Bool) (bytes : List ℕ) (x : KeyPair × List ℕ) → keys_at n v4 bytes ≡ Ok x → AreKeys x.0.wire x.0.stack
unfolding keys_at
keys-are n v4 bytes x e =
    bind_then (ends_at v4 bytes) _ x e (λ wire wire_is e1.
    bind_then (ends_at v4 wire.1) _ x e1 (λ stack stack_is e2.
    let t0 = ends-are v4 bytes wire wire_is in
    let t1 = ends-are v4 wire.1 stack stack_is in
    let are : AreKeys (key_with n wire.0) (key_with n stack.0) = record {
      proto = ap proto_of (proto_back n);
      one_proto = refl;
      wire_family = one_family wire.0.0.addr wire.0.1.addr v4 t0.0 t0.1;
      stack_family = one_family stack.0.0.addr stack.0.1.addr v4 t1.0 t1.1;
      one_family = one_family wire.0.0.addr stack.0.0.addr v4 t0.0 t1.0;
    } in
    let made : KeyPair × List ℕ = (record { wire = key_with n wire.0; stack = key_with n stack.0 }, stack.1) in
    subst (λ (y : KeyPair × List ℕ). AreKeys y.0.wire y.0.stack) (ok_is made x e2) are))

-- ---- records

update-is : (bytes : List ℕ) (x : UpdateRecord × List ℕ) → update_at bytes ≡ Ok x → IsPeer x.0.src × IsPeer x.0.dst
unfolding update_at
update-is bytes x e =
    bind_then (name_at bytes) _ x e (λ name name_is e1.
    bind_then (peer_at name.1) _ x e1 (λ src src_is e2.
    bind_then (peer_at src.1) _ x e2 (λ dst dst_is e3.
    bind_then (class_at dst.1) _ x e3 (λ class class_is e4.
    bind_then (number_at 4 class.1) _ x e4 (λ remaining remaining_is e5.
    let made : UpdateRecord × List ℕ = (record { name = name.0; src = src.0; dst = dst.0; class = class.0; remaining = remaining.0 }, remaining.1) in
    subst (λ (y : UpdateRecord × List ℕ). IsPeer y.0.src × IsPeer y.0.dst) (ok_is made x e5)
    (peer-is name.1 src src_is, peer-is src.1 dst dst_is))))))

state-is : (bytes : List ℕ) (x : StateRecord × List ℕ) → state_at bytes ≡ Ok x → IsWhole x.0
unfolding state_at
state-is bytes x e =
    bind_then (name_at bytes) _ x e (λ name name_is e1.
    bind_then (byte_at name.1) _ x e1 (λ proto proto_is e2.
    bind_then (byte_at proto.1) _ x e2 (λ family family_is e3.
    bind_then (is_v4_of family.0) _ x e3 (λ v4 v4_is e4.
    bind_then (byte_at family.1) _ x e4 (λ direction direction_is e5.
    bind_then (dir_of direction.0) _ x e5 (λ dir dir_is e6.
    bind_then (byte_at direction.1) _ x e6 (λ flags flags_is e7.
    bind_then (ack_wanted_of flags.0) _ x e7 (λ ack ack_is e8.
    bind_then (keys_at proto.0 v4 flags.1) _ x e8 (λ keys keys_is e9.
    bind_then (peer_at keys.1) _ x e9 (λ src src_is e10.
    bind_then (peer_at src.1) _ x e10 (λ dst dst_is e11.
    bind_then (class_at dst.1) _ x e11 (λ class class_is e12.
    bind_then (number_at 4 class.1) _ x e12 (λ remaining remaining_is e13.
    bind_then (number_at 4 remaining.1) _ x e13 (λ rule rule_is e14.
    let made : StateRecord × List ℕ = (
      record {
        name = name.0;
        keys = keys.0;
        direction = dir;
        ack_wanted = ack;
        src = src.0;
        dst = dst.0;
        class = class.0;
        remaining = remaining.0;
        rule = rule_of rule.0;
      },
      rule.1,
    ) in
    subst (λ (y : StateRecord × List ℕ). IsWhole y.0) (ok_is made x e14)
    (record { src = peer-is keys.1 src src_is; dst = peer-is src.1 dst dst_is; keys = keys-are proto.0 v4 flags.1 keys keys_is })))))))))))))))

-- what is read, as a record
read_as-is : {X : Type 0} (make : X → Message) (r : Read X) (x : Message × List ℕ) → ((y : X × List ℕ) → r ≡ Ok y → IsRecord (make y.0))
    → read_as make r ≡ Ok x → IsRecord x.0
read_as-is make (Ok y) x is e = subst (λ (z : Message × List ℕ). IsRecord z.0) (ok_is (make y.0, y.1) x e) (is y refl)
read_as-is make (Err f) x is e = absurd cc

clear-is : (bytes : List ℕ) (x : Message × List ℕ) → clear_at bytes ≡ Ok x → IsRecord x.0
unfolding clear_at
clear-is bytes x e =
    bind_then (number_at 4 bytes) _ x e (λ creator creator_is e1.
    bind_then (number_at 8 creator.1) _ x e1 (λ bound bound_is e2.
    let made : Message × List ℕ = (message.Clear creator.0 bound.0, bound.1) in
    subst (λ (y : Message × List ℕ). IsRecord y.0) (ok_is made x e2) tt))

bulk-is : (bytes : List ℕ) (x : Message × List ℕ) → bulk_at bytes ≡ Ok x → IsRecord x.0
unfolding bulk_at
bulk-is bytes x e =
    bind_then (number_at 4 bytes) _ x e (λ creator creator_is e1.
    bind_then (byte_at creator.1) _ x e1 (λ number number_is e2.
    bind_then (status_of number.0) _ x e2 (λ status status_is e3.
    bind_then (pads_at 3 number.1) _ x e3 (λ pads pads_is e4.
    let made : Message × List ℕ = (message.Bulk creator.0 status, pads) in
    subst (λ (y : Message × List ℕ). IsRecord y.0) (ok_is made x e4) tt))))

record-is : (a : Action) (bytes : List ℕ) (x : Message × List ℕ) → record_at a bytes ≡ Ok x → IsRecord x.0
unfolding record_at
record-is action.Clear bytes x e = clear-is bytes x e
record-is action.Insert bytes x e = read_as-is message.Insert (state_at bytes) x (λ y is. state-is bytes y is) e
record-is action.InsertAck bytes x e = read_as-is message.InsertAck (name_at bytes) x (λ y is. tt) e
record-is action.Update bytes x e = read_as-is message.Update (state_at bytes) x (λ y is. state-is bytes y is) e
record-is action.UpdateShort bytes x e = read_as-is message.UpdateShort (update_at bytes) x (λ y is. update-is bytes y is) e
record-is action.UpdateRequest bytes x e = read_as-is message.UpdateRequest (name_at bytes) x (λ y is. tt) e
record-is action.Delete bytes x e = read_as-is message.Delete (state_at bytes) x (λ y is. tt) e
record-is action.DeleteShort bytes x e = read_as-is message.DeleteShort (name_at bytes) x (λ y is. tt) e
record-is action.Bulk bytes x e = bulk-is bytes x e

-- ---- groups

abbrev pub AreRecords : List Message → Type 0
AreRecords ms = AllByRecursion IsRecord ms

records-are : (a : Action) (n : ℕ) (bytes : List ℕ) (x : List Message × List ℕ) → records_at a n bytes ≡ Ok x → AreRecords x.0
unfolding records_at
records-are a zero bytes x e = subst (λ (y : List Message × List ℕ). AreRecords y.0) (ok_is ([], bytes) x e) tt
records-are a (suc n) bytes x e =
    bind_then (record_at a bytes) _ x e (λ first first_is e1.
    bind_then (records_at a n first.1) _ x e1 (λ rest rest_is e2.
    let made : List Message × List ℕ = (first.0 ∷ rest.0, rest.1) in
    subst (λ (y : List Message × List ℕ). AreRecords y.0) (ok_is made x e2)
    (record-is a bytes first first_is, records-are a n first.1 rest rest_is)))

group-is : (bytes : List ℕ) (x : List Message × List ℕ) → group_at bytes ≡ Ok x → AreRecords x.0
unfolding group_at
group-is bytes x e = bind_then (subheader_at bytes) _ x e (λ group group_is e1. records-are group.0.action group.0.count group.1 x e1)

groups-are : (fuel : ℕ) (bytes : List ℕ) (x : List (List Message) × List ℕ) → groups_at fuel bytes ≡ Ok x → AllByRecursion AreRecords x.0
unfolding groups_at
groups-are fuel [] x e = subst (λ (y : List (List Message) × List ℕ). AllByRecursion AreRecords y.0) (ok_is ([], []) x e) tt
groups-are zero (b ∷ bytes) x e = absurd cc
groups-are (suc fuel) (b ∷ bytes) x e =
    bind_then (group_at (b ∷ bytes)) _ x e (λ first first_is e1.
    bind_then (groups_at fuel first.1) _ x e1 (λ rest rest_is e2.
    let made : List (List Message) × List ℕ = (first.0 ∷ rest.0, rest.1) in
    subst (λ (y : List (List Message) × List ℕ). AllByRecursion AreRecords y.0) (ok_is made x e2)
    (group-is (b ∷ bytes) first first_is, groups-are fuel first.1 rest rest_is)))

-- ---- frames

both : (xs ys : List Message) → AreRecords xs → AreRecords ys → AreRecords (xs ++ ys)
both [] ys p q = q
both (x ∷ xs) ys p q = (p.0, both xs ys p.1 q)

flat : (gs : List (List Message)) → AllByRecursion AreRecords gs → AreRecords (flat_map (λ group. group) gs)
flat [] are = tt
flat (g ∷ gs) are = both g (flat_map (λ group. group) gs) are.0 (flat gs are.1)

pub frame-is : (bytes : List ℕ) (f : Frame) → reading bytes ≡ Ok f → AreRecords (records_of f)
unfolding reading
frame-is bytes f e =
    bind_then (header_at bytes) _ f e (λ print print_is e1.
    bind_then (groups_at (length print.1) print.1) _ f e1 (λ groups groups_is e2.
    let made : Frame = record { print = print.0; groups = groups.0 } in
    subst (λ (g : Frame). AreRecords (records_of g)) (ok_is made f e2) (flat groups.0 (groups-are (length print.1) print.1 groups groups_is))))
