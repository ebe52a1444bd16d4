-- Each record that is read is spelled by the bytes that were taken, and what is spelled is read again.
use Rattle.std.proofs.Common.{◌≡◌, ℕ, ◌^◌, ◌<◌, ◌≤◌, Bool, true, false, List, [], ◌∷◌, ◌++◌, Option, Some, None, Result, Ok, refl, sym, ap, subst}
use Rattle.std.proofs.Common.{◌∙◌, append_assoc, arith}
use Rattle.std.specs.Prelude.{IfSome, nat_le, ◌-◌, unwrap_or}
use Rattle.std.specs.Option.{ok_or}
use Rattle.std.proofs.lemmas.Bool.Decides.{nat_tests}
use Rattle.pfl_base.specs.Classes.{class_number, class_of}
use Rattle.pfl_wire.specs.declared.message.UpdateRecord.{UpdateRecord}
use Rattle.pfl_wire.specs.declared.message.StateRecord.{StateRecord}
use Rattle.pfl_base.specs.declared.addr.Addr.{Addr}
use Rattle.pfl_base.specs.declared.addr.Addr.TheVariants.{V4, V6}
use Rattle.pfl_base.specs.declared.addr.End.{End}
use Rattle.pfl_base.specs.declared.class.Class.{Class}
use Rattle.pfl_base.specs.declared.flow.Key.{Key}
use Rattle.pfl_base.specs.declared.state_name.StateName.{StateName}
use Rattle.pfl_base.specs.Ends.{is_v4, proto_number, proto_of}
use Rattle.pfl_track.specs.declared.key_pair.KeyPair.{KeyPair}
use Rattle.pfl_track.specs.declared.peer.Peer.{Peer}
use Rattle.pfl_track.specs.Keys.{AreKeys}
use Rattle.pfl_wire.specs.declared.fault.BadFrame.{BadFrame}
use Rattle.pfl_wire.specs.declared.fault.BadFrame.TheVariants as bad
use Rattle.pfl_wire.specs.Frames.{FitsName, FitsPeer, FitsAddr, FitsEnd, FitsKey, FitsKeys, FitsUpdate, FitsState}
use Rattle.pfl_wire.specs.Spelling.{number_bytes, name_bytes, scale_byte, peer_bytes, address_bytes, end_bytes, key_bytes, keys_bytes, class_bytes}
use Rattle.pfl_wire.specs.Spelling.{update_bytes, state_bytes, family_byte, dir_byte, flags_byte, rule_bytes}
use Rattle.pfl_wire.specs.Fields.{◌>>=◌, wanted, byte_at, number_at, pads_at, name_at, scale_of, peer_at, address_at, end_at, ends_at, class_at}
use Rattle.pfl_wire.specs.Fields.{is_v4_of, dir_of, ack_wanted_of, rule_of}
use Rattle.pfl_wire.specs.Records.{key_with, keys_at, update_at, state_at}
use Rattle.pfl_wire.proofs.Fields.{IsBytes, bind_then, wanted_ok, ok_is, Takes, Takes-then, byte_takes, number_takes, number_again, pads_take, pads_again}
use Rattle.pfl_wire.proofs.Values.{scale_back, scale_again, class_back, class_again, ok_or_ok, family_back, family_again, dir_back, dir_again}
use Rattle.pfl_wire.proofs.Values.{flags_back, flags_again, proto_back, rule_back, rule_again, one_family, family_same}

pub name_takes : (bytes : List ℕ) (x : StateName × List ℕ) → IsBytes bytes → name_at bytes ≡ Ok x → Takes bytes (name_bytes x.0) x.1 × FitsName x.0
unfolding name_at name_bytes
name_takes bytes x fits e =
    bind_then (number_at 8 bytes) _ x e (λ id id_is e1.
    bind_then (number_at 4 id.1) _ x e1 (λ creator creator_is e2.
    let t0 = number_takes 8 bytes id fits id_is in
    let t1 = number_takes 4 id.1 creator t0.0.rest_fits creator_is in
    let made : StateName × List ℕ = (record { creator = creator.0; id = id.0 }, creator.1) in
    subst (λ (y : StateName × List ℕ). Takes bytes (name_bytes y.0) y.1 × FitsName y.0) (ok_is made x e2)
    (Takes-then bytes _ id.1 _ creator.1 t0.0 t1.0, record { creator = t1.1; id = t0.1 })))

-- a step that succeeds goes on with its value
pub bind_again : {A B : Type 0} (r : Result A BadFrame) (f : A → Result B BadFrame) (x : A) (y : Result B BadFrame) → r ≡ Ok x → f x ≡ y → (r >>= f) ≡ y
bind_again r f x y e h = ap (λ (q : Result _ BadFrame). q >>= f) e ∙ h

pub name_again : (n : StateName) (rest : List ℕ) → FitsName n → name_at (name_bytes n ++ rest) ≡ Ok (n, rest)
unfolding name_at name_bytes
name_again n rest fits =
    simp append_assoc (bind_again _ _ _ _ (number_again 8 n.id _ fits.id) (bind_again _ _ _ _ (number_again 4 n.creator rest fits.creator) refl))

-- a byte that stands for another value
pub Takes-byte : (a rest : List ℕ) (b c : ℕ) → Takes a (b ∷ []) rest → c ≡ b → Takes a (c ∷ []) rest
Takes-byte a rest b c t e = subst (λ (d : ℕ). Takes a (d ∷ []) rest) (sym e) t

pub le_from : (n m : ℕ) → nat_le n m ≡ true → n ≤ m
le_from n m e = grind (arith, nat_tests)

pub le_test : (n m : ℕ) → n ≤ m → nat_le n m ≡ true
le_test n m e = grind (arith, nat_tests)

pub peer_takes : (bytes : List ℕ) (x : Peer × List ℕ) → IsBytes bytes → peer_at bytes ≡ Ok x → Takes bytes (peer_bytes x.0) x.1 × FitsPeer x.0
unfolding peer_at peer_bytes
peer_takes bytes x fits e =
    bind_then (byte_at bytes) _ x e (λ level level_is e1.
    bind_then (wanted (nat_le level.0 10) bad.Value) _ x e1 (λ low low_is e2.
    bind_then (byte_at level.1) _ x e2 (λ number number_is e3.
    bind_then (scale_of number.0) _ x e3 (λ scale scale_is e4.
    bind_then (number_at 2 number.1) _ x e4 (λ window window_is e5.
    bind_then (number_at 4 window.1) _ x e5 (λ lo lo_is e6.
    bind_then (number_at 4 lo.1) _ x e6 (λ hi hi_is e7.
    let t0 = byte_takes bytes level fits level_is in
    let t1 = byte_takes level.1 number t0.0.rest_fits number_is in
    let s = scale_back number.0 scale scale_is in
    let t2 = number_takes 2 number.1 window t1.0.rest_fits window_is in
    let t3 = number_takes 4 window.1 lo t2.0.rest_fits lo_is in
    let t4 = number_takes 4 lo.1 hi t3.0.rest_fits hi_is in
    let b1 = Takes-byte level.1 number.1 number.0 (scale_byte scale) t1.0 s.0 in
    let c1 = Takes-then bytes _ level.1 _ number.1 t0.0 b1 in
    let c2 = Takes-then bytes _ number.1 _ window.1 c1 t2.0 in
    let c3 = Takes-then bytes _ window.1 _ lo.1 c2 t3.0 in
    let c4 = Takes-then bytes _ lo.1 _ hi.1 c3 t4.0 in
    let made : Peer × List ℕ = (record { level = level.0; scale = scale; window = window.0; lo = lo.0; hi = hi.0 }, hi.1) in
    subst (λ (y : Peer × List ℕ). Takes bytes (peer_bytes y.0) y.1 × FitsPeer y.0) (ok_is made x e7)
    (c4, record { is = record { level = le_from _ _ (wanted_ok _ _ _ low_is); scale = s.1 }; window = t2.1; lo = t3.1; hi = t4.1 }))))))))

pub wanted_again : (b : Bool) (f : BadFrame) → b ≡ true → wanted b f ≡ Ok tt
wanted_again b f e = ap (λ (t : Bool). wanted t f) e

regroup : (a b c d : List ℕ) → ((a ++ b) ++ c) ++ d ≡ a ++ (b ++ (c ++ d))
regroup a b c d = simp append_assoc

pub peer_again : (p : Peer) (rest : List ℕ) → FitsPeer p → peer_at (peer_bytes p ++ rest) ≡ Ok (p, rest)
unfolding peer_at peer_bytes
peer_again p rest fits =
    let regrouped : peer_bytes p ++ rest ≡ p.level ∷ scale_byte p.scale ∷ (number_bytes 2 p.window ++ (number_bytes 4 p.lo ++ (number_bytes 4 p.hi ++ rest))) =
    ap (λ (t : List ℕ). p.level ∷ scale_byte p.scale ∷ t) (regroup (number_bytes 2 p.window) (number_bytes 4 p.lo) (number_bytes 4 p.hi) rest) in
    ap peer_at regrouped ∙ (bind_again _ _ _ _ (wanted_again (nat_le p.level 10) bad.Value (le_test _ _ fits.is.level))
    (bind_again _ _ _ _ (scale_again p.scale fits.is.scale) (bind_again _ _ _ _ (number_again 2 p.window _ fits.window)
    (bind_again _ _ _ _ (number_again 4 p.lo _ fits.lo) (bind_again _ _ _ _ (number_again 4 p.hi _ fits.hi) refl)))))

-- what is read of an address
pub record IsAddrOf (v4 : Bool) (a : Addr) : Type 0 where
  pub fits : FitsAddr a
  pub family : is_v4 a ≡ v4

pub address_takes : (v4 : Bool) (bytes : List ℕ) (x : Addr × List ℕ) → IsBytes bytes → address_at v4 bytes ≡ Ok x
    → Takes bytes (address_bytes x.0) x.1 × IsAddrOf v4 x.0
unfolding address_at
address_takes true bytes x fits e =
    bind_then (number_at 4 bytes) _ x e (λ number number_is e1.
    bind_then (pads_at 12 number.1) _ x e1 (λ pads pads_is e2.
    let t0 = number_takes 4 bytes number fits number_is in
    let t1 = pads_take 12 number.1 pads t0.0.rest_fits pads_is in
    let made : Addr × List ℕ = (V4 number.0, pads) in
    subst (λ (y : Addr × List ℕ). Takes bytes (address_bytes y.0) y.1 × IsAddrOf true y.0) (ok_is made x e2)
    (Takes-then bytes _ number.1 _ pads t0.0 t1, record { fits = t0.1; family = refl })))
address_takes false bytes x fits e =
    bind_then (number_at 16 bytes) _ x e (λ number number_is e1.
    let t0 = number_takes 16 bytes number fits number_is in
    let made : Addr × List ℕ = (V6 number.0, number.1) in
    subst (λ (y : Addr × List ℕ). Takes bytes (address_bytes y.0) y.1 × IsAddrOf false y.0) (ok_is made x e1)
    (t0.0, record { fits = t0.1; family = refl }))

pub address_again : (a : Addr) (rest : List ℕ) → FitsAddr a → address_at (is_v4 a) (address_bytes a ++ rest) ≡ Ok (a, rest)
unfolding address_at
address_again (V4 a) rest fits =
    simp append_assoc (bind_again _ _ _ _ (number_again 4 a _ fits) (bind_again _ _ _ _ (pads_again 12 rest) refl))
address_again (V6 a) rest fits = bind_again _ _ _ _ (number_again 16 a rest fits) refl

-- what is read of an end
pub record IsEndOf (v4 : Bool) (e : End) : Type 0 where
  pub fits : FitsEnd e
  pub family : is_v4 e.addr ≡ v4

pub end_takes : (v4 : Bool) (bytes : List ℕ) (x : End × List ℕ) → IsBytes bytes → end_at v4 bytes ≡ Ok x → Takes bytes (end_bytes x.0) x.1 × IsEndOf v4 x.0
unfolding end_at end_bytes
end_takes v4 bytes x fits e =
    bind_then (address_at v4 bytes) _ x e (λ addr addr_is e1.
    bind_then (number_at 2 addr.1) _ x e1 (λ port port_is e2.
    let t0 = address_takes v4 bytes addr fits addr_is in
    let t1 = number_takes 2 addr.1 port t0.0.rest_fits port_is in
    let made : End × List ℕ = (record { addr = addr.0; port = port.0 }, port.1) in
    subst (λ (y : End × List ℕ). Takes bytes (end_bytes y.0) y.1 × IsEndOf v4 y.0) (ok_is made x e2)
    (Takes-then bytes _ addr.1 _ port.1 t0.0 t1.0, record { fits = record { addr = t0.1.fits; port = t1.1 }; family = t0.1.family })))

pub end_again : (v4 : Bool) (e : End) (rest : List ℕ) → FitsEnd e → is_v4 e.addr ≡ v4 → end_at v4 (end_bytes e ++ rest) ≡ Ok (e, rest)
unfolding end_at end_bytes
end_again v4 e rest fits is =
    subst (λ (v : Bool). end_at v (end_bytes e ++ rest) ≡ Ok (e, rest)) is
    (simp append_assoc (bind_again _ _ _ _ (address_again e.addr _ fits.addr) (bind_again _ _ _ _ (number_again 2 e.port rest fits.port) refl)))

-- what is read of the two ends of a flow
pub record IsKeyOf (v4 : Bool) (k : Key) : Type 0 where
  pub fits : FitsKey k
  pub far : is_v4 k.far.addr ≡ v4
  pub near : is_v4 k.near.addr ≡ v4

pub ends_take : (n : ℕ) (v4 : Bool) (bytes : List ℕ) (x : (End × End) × List ℕ) → IsBytes bytes → ends_at v4 bytes ≡ Ok x
    → Takes bytes (key_bytes (key_with n x.0)) x.1 × IsKeyOf v4 (key_with n x.0)
unfolding ends_at key_bytes
ends_take n v4 bytes x fits e =
    bind_then (end_at v4 bytes) _ x e (λ far far_is e1.
    bind_then (end_at v4 far.1) _ x e1 (λ near near_is e2.
    let t0 = end_takes v4 bytes far fits far_is in
    let t1 = end_takes v4 far.1 near t0.0.rest_fits near_is in
    let made : (End × End) × List ℕ = ((far.0, near.0), near.1) in
    subst (λ (y : (End × End) × List ℕ). Takes bytes (key_bytes (key_with n y.0)) y.1 × IsKeyOf v4 (key_with n y.0)) (ok_is made x e2) (
      Takes-then bytes _ far.1 _ near.1 t0.0 t1.0,
      record {
        fits = record { far = t0.1.fits; near = t1.1.fits };
        far = t0.1.family;
        near = t1.1.family;
      },
    )))

pub ends_again : (v4 : Bool) (k : Key) (rest : List ℕ) → FitsKey k → is_v4 k.far.addr ≡ v4 → is_v4 k.near.addr ≡ v4
    → ends_at v4 (key_bytes k ++ rest) ≡ Ok ((k.far, k.near), rest)
unfolding ends_at key_bytes
ends_again v4 k rest fits far near =
    simp append_assoc (bind_again _ _ _ _ (end_again v4 k.far _ fits.far far) (bind_again _ _ _ _ (end_again v4 k.near rest fits.near near) refl))

-- what is read of the keys of a state
pub record IsKeysOf (n : ℕ) (v4 : Bool) (k : KeyPair) : Type 0 where
  pub fits : FitsKeys k
  pub number : proto_number k.wire.proto ≡ n
  pub family : is_v4 k.wire.far.addr ≡ v4

pub keys_take : (n : ℕ) (v4 : Bool) (bytes : List ℕ) (x : KeyPair × List ℕ) → IsBytes bytes → keys_at n v4 bytes ≡ Ok x
    → Takes bytes (keys_bytes x.0) x.1 × IsKeysOf n v4 x.0
unfolding keys_at keys_bytes
keys_take n v4 bytes x fits e =
    bind_then (ends_at v4 bytes) _ x e (λ wire wire_is e1.
    bind_then (ends_at v4 wire.1) _ x e1 (λ stack stack_is e2.
    let t0 = ends_take n v4 bytes wire fits wire_is in
    let t1 = ends_take n v4 wire.1 stack t0.0.rest_fits stack_is in
    let are : AreKeys (key_with n wire.0) (key_with n stack.0) = record {
      proto = ap proto_of (proto_back n);
      one_proto = refl;
      wire_family = one_family wire.0.0.addr wire.0.1.addr v4 t0.1.far t0.1.near;
      stack_family = one_family stack.0.0.addr stack.0.1.addr v4 t1.1.far t1.1.near;
      one_family = one_family wire.0.0.addr stack.0.0.addr v4 t0.1.far t1.1.far;
    } in
    let made : KeyPair × List ℕ = (record { wire = key_with n wire.0; stack = key_with n stack.0 }, stack.1) in
    subst (λ (y : KeyPair × List ℕ). Takes bytes (keys_bytes y.0) y.1 × IsKeysOf n v4 y.0) (ok_is made x e2) (
      Takes-then bytes _ wire.1 _ stack.1 t0.0 t1.0,
      record {
        fits = record { are = are; wire = t0.1.fits; stack = t1.1.fits };
        number = proto_back n;
        family = t0.1.far;
      },
    )))

pub keys_again : (v4 : Bool) (k : KeyPair) (rest : List ℕ) → FitsKeys k → is_v4 k.wire.far.addr ≡ v4
    → keys_at (proto_number k.wire.proto) v4 (keys_bytes k ++ rest) ≡ Ok (k, rest)
unfolding keys_at keys_bytes
keys_again v4 k rest fits family =
    let are = fits.are in
    let far : is_v4 k.stack.far.addr ≡ v4 = family_same _ _ are.one_family ∙ family in
    simp append_assoc
    (bind_again _ _ _ _ (ends_again v4 k.wire _ fits.wire family (family_same _ _ are.wire_family ∙ family))
    (bind_again _ _ _ _ (ends_again v4 k.stack rest fits.stack far (family_same _ _ are.stack_family ∙ far))
    (λ i. Ok (record k { wire = record k.wire { proto = are.proto i }; stack = record k.stack { proto = (are.proto ∙ sym are.one_proto) i } }, rest))))

pub class_takes : (bytes : List ℕ) (x : Class × List ℕ) → IsBytes bytes → class_at bytes ≡ Ok x → Takes bytes (class_bytes x.0) x.1
unfolding class_at class_bytes
class_takes bytes x fits e =
    bind_then (byte_at bytes) _ x e (λ number number_is e1.
    bind_then (ok_or (class_of number.0) bad.Value) _ x e1 (λ class class_is e2.
    bind_then (pads_at 3 number.1) _ x e2 (λ pads pads_is e3.
    let t0 = byte_takes bytes number fits number_is in
    let b0 = Takes-byte bytes number.1 number.0 (class_number class) t0.0 (class_back number.0 class (ok_or_ok _ _ _ class_is)) in
    let t1 = pads_take 3 number.1 pads t0.0.rest_fits pads_is in
    let made : Class × List ℕ = (class, pads) in
    subst (λ (y : Class × List ℕ). Takes bytes (class_bytes y.0) y.1) (ok_is made x e3)
    (Takes-then bytes _ number.1 _ pads b0 t1))))

pub class_again_at : (c : Class) (rest : List ℕ) → class_at (class_bytes c ++ rest) ≡ Ok (c, rest)
unfolding class_at class_bytes
class_again_at c rest =
    (bind_again _ _ _ _ (ap (λ (o : Option Class). ok_or o bad.Value) (class_again c)) (bind_again _ _ _ _ (pads_again 3 rest) refl))

pub update_takes : (bytes : List ℕ) (x : UpdateRecord × List ℕ) → IsBytes bytes → update_at bytes ≡ Ok x → Takes bytes (update_bytes x.0) x.1 × FitsUpdate x.0
unfolding update_at update_bytes
update_takes bytes x fits e =
    bind_then (name_at bytes) _ x e (λ name name_is e1.
    bind_then (peer_at name.1) _ x e1 (λ src src_is e2.
    bind_then (peer_at src.1) _ x e2 (λ dst dst_is e3.
    bind_then (class_at dst.1) _ x e3 (λ class class_is e4.
    bind_then (number_at 4 class.1) _ x e4 (λ remaining remaining_is e5.
    let t0 = name_takes bytes name fits name_is in
    let t1 = peer_takes name.1 src t0.0.rest_fits src_is in
    let t2 = peer_takes src.1 dst t1.0.rest_fits dst_is in
    let t3 = class_takes dst.1 class t2.0.rest_fits class_is in
    let t4 = number_takes 4 class.1 remaining t3.rest_fits remaining_is in
    let c1 = Takes-then bytes _ name.1 _ src.1 t0.0 t1.0 in
    let c2 = Takes-then bytes _ src.1 _ dst.1 c1 t2.0 in
    let c3 = Takes-then bytes _ dst.1 _ class.1 c2 t3 in
    let c4 = Takes-then bytes _ class.1 _ remaining.1 c3 t4.0 in
    let made : UpdateRecord × List ℕ = (record { name = name.0; src = src.0; dst = dst.0; class = class.0; remaining = remaining.0 }, remaining.1) in
    subst (λ (y : UpdateRecord × List ℕ). Takes bytes (update_bytes y.0) y.1 × FitsUpdate y.0) (ok_is made x e5)
    (c4, record { name = t0.1; src = t1.1; dst = t2.1; remaining = t4.1 }))))))

pub update_again : (u : UpdateRecord) (rest : List ℕ) → FitsUpdate u → update_at (update_bytes u ++ rest) ≡ Ok (u, rest)
unfolding update_at update_bytes
update_again u rest fits =
    simp append_assoc (bind_again _ _ _ _ (name_again u.name _ fits.name) (bind_again _ _ _ _ (peer_again u.src _ fits.src)
    (bind_again _ _ _ _ (peer_again u.dst _ fits.dst)
    (bind_again _ _ _ _ (class_again_at u.class _) (bind_again _ _ _ _ (number_again 4 u.remaining rest fits.remaining) refl)))))

pub state_takes : (bytes : List ℕ) (x : StateRecord × List ℕ) → IsBytes bytes → state_at bytes ≡ Ok x → Takes bytes (state_bytes x.0) x.1 × FitsState x.0
unfolding state_at state_bytes
state_takes bytes x fits e =
    bind_then (name_at bytes) _ x e (λ name name_is e1.
    bind_then (byte_at name.1) _ x e1 (λ proto proto_is e2.
    bind_then (byte_at proto.1) _ x e2 (λ family family_is e3.
    bind_then (is_v4_of family.0) _ x e3 (λ v4 v4_is e4.
    bind_then (byte_at family.1) _ x e4 (λ direction direction_is e5.
    bind_then (dir_of direction.0) _ x e5 (λ dir dir_is e6.
    bind_then (byte_at direction.1) _ x e6 (λ flags flags_is e7.
    bind_then (ack_wanted_of flags.0) _ x e7 (λ ack ack_is e8.
    bind_then (keys_at proto.0 v4 flags.1) _ x e8 (λ keys keys_is e9.
    bind_then (peer_at keys.1) _ x e9 (λ src src_is e10.
    bind_then (peer_at src.1) _ x e10 (λ dst dst_is e11.
    bind_then (class_at dst.1) _ x e11 (λ class class_is e12.
    bind_then (number_at 4 class.1) _ x e12 (λ remaining remaining_is e13.
    bind_then (number_at 4 remaining.1) _ x e13 (λ rule rule_is e14.
    let t0 = name_takes bytes name fits name_is in
    let t1 = byte_takes name.1 proto t0.0.rest_fits proto_is in
    let t2 = byte_takes proto.1 family t1.0.rest_fits family_is in
    let t3 = byte_takes family.1 direction t2.0.rest_fits direction_is in
    let t4 = byte_takes direction.1 flags t3.0.rest_fits flags_is in
    let t5 = keys_take proto.0 v4 flags.1 keys t4.0.rest_fits keys_is in
    let t6 = peer_takes keys.1 src t5.0.rest_fits src_is in
    let t7 = peer_takes src.1 dst t6.0.rest_fits dst_is in
    let t8 = class_takes dst.1 class t7.0.rest_fits class_is in
    let t9 = number_takes 4 class.1 remaining t8.rest_fits remaining_is in
    let t10 = number_takes 4 remaining.1 rule t9.0.rest_fits rule_is in
    let b1 = Takes-byte name.1 proto.1 proto.0 (proto_number keys.0.wire.proto) t1.0 t5.1.number in
    let b2 = Takes-byte proto.1 family.1 family.0 (family_byte keys.0.wire.far.addr) t2.0 (family_back family.0 v4 keys.0.wire.far.addr v4_is t5.1.family) in
    let b3 = Takes-byte family.1 direction.1 direction.0 (dir_byte dir) t3.0 (dir_back direction.0 dir dir_is) in
    let b4 = Takes-byte direction.1 flags.1 flags.0 (flags_byte ack) t4.0 (flags_back flags.0 ack ack_is) in
    let r = rule_back rule.0 t10.1 in
    let b10 : Takes remaining.1 (rule_bytes (rule_of rule.0)) rule.1 = subst (λ (n : ℕ). Takes remaining.1 (number_bytes 4 n) rule.1) (sym r.0) t10.0 in
    let c1 = Takes-then bytes _ name.1 _ proto.1 t0.0 b1 in
    let c2 = Takes-then bytes _ proto.1 _ family.1 c1 b2 in
    let c3 = Takes-then bytes _ family.1 _ direction.1 c2 b3 in
    let c4 = Takes-then bytes _ direction.1 _ flags.1 c3 b4 in
    let c5 = Takes-then bytes _ flags.1 _ keys.1 c4 t5.0 in
    let c6 = Takes-then bytes _ keys.1 _ src.1 c5 t6.0 in
    let c7 = Takes-then bytes _ src.1 _ dst.1 c6 t7.0 in
    let c8 = Takes-then bytes _ dst.1 _ class.1 c7 t8 in
    let c9 = Takes-then bytes _ class.1 _ remaining.1 c8 t9.0 in
    let c10 = Takes-then bytes _ remaining.1 _ rule.1 c9 b10 in
    let made : StateRecord × List ℕ = (
      record {
        name = name.0;
        keys = keys.0;
        direction = dir;
        ack_wanted = ack;
        src = src.0;
        dst = dst.0;
        class = class.0;
        remaining = remaining.0;
        rule = rule_of rule.0;
      },
      rule.1,
    ) in
    subst (λ (y : StateRecord × List ℕ). Takes bytes (state_bytes y.0) y.1 × FitsState y.0) (ok_is made x e14) (
      c10,
      record {
        name = t0.1;
        proto = subst (λ (n : ℕ). n < 256) (sym t5.1.number) t1.1;
        keys = t5.1.fits;
        src = t6.1;
        dst = t7.1;
        remaining = t9.1;
        rule = r.1;
      },
    )))))))))))))))

pub state_again : (s : StateRecord) (rest : List ℕ) → FitsState s → state_at (state_bytes s ++ rest) ≡ Ok (s, rest)
unfolding state_at state_bytes
state_again s rest fits =
    let v4 = is_v4 s.keys.wire.far.addr in
    simp append_assoc
    (bind_again _ _ _ _ (name_again s.name _ fits.name)
    (bind_again _ _ _ _ (family_again s.keys.wire.far.addr)
    (bind_again _ _ _ _ (dir_again s.direction)
    (bind_again _ _ _ _ (flags_again s.ack_wanted)
    (bind_again _ _ _ _ (keys_again v4 s.keys _ fits.keys refl)
    (bind_again _ _ _ _ (peer_again s.src _ fits.src)
    (bind_again _ _ _ _ (peer_again s.dst _ fits.dst)
    (bind_again _ _ _ _ (class_again_at s.class _)
    (bind_again _ _ _ _ (number_again 4 s.remaining _ fits.remaining)
    (bind_again _ _ _ _ (number_again 4 (unwrap_or s.rule 4294967295) rest (rule_fits s.rule fits.rule))
    (λ i. Ok (record s { rule = rule_again s.rule fits.rule i }, rest))))))))))))
  where
    rule_fits : (o : Option ℕ) → IfSome o (λ n. n < 2 ^ 32 - 1) → unwrap_or o 4294967295 < 256 ^ 4
    rule_fits None h = omega arith
    rule_fits (Some n) h = omega arith
