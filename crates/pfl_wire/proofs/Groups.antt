-- Records, groups and frames: what is read is spelled so, and what is spelled is read again.
use Rattle.std.proofs.Common.{◌≡◌, ℕ, zero, suc, ◌+◌, ◌*◌, ◌^◌, ◌<◌, ◌≤◌, Bool, true, List, [], ◌∷◌, ◌++◌, length, Option, Result, Ok, Err, refl, sym}
use Rattle.std.proofs.Common.{ap, subst, ◌∙◌, append_assoc, arith}
use Rattle.std.specs.Prelude.{◌==◌, ◌&&◌, nat_le, nat_lt}
use Rattle.std.specs.List.{flat_map, AllByRecursion}
use Rattle.std.specs.Option.{ok_or}
use Rattle.std.proofs.lemmas.Bool.{eqb-true}
use Rattle.std.proofs.lemmas.Bool.Decides.{nat_tests}
use Rattle.std.proofs.lemmas.List.{length-append}
use Rattle.std.proofs.lemmas.List.Concat.{flat_map-cons}
use Rattle.std.proofs.Math.Nat.{suc-mul}
use Rattle.pfl_base.specs.declared.state_name.StateName.{StateName}
use Rattle.pfl_base.specs.declared.addr.Addr.{Addr}
use Rattle.pfl_base.specs.declared.addr.Addr.TheVariants.{V4, V6}
use Rattle.pfl_base.specs.declared.addr.End.{End}
use Rattle.pfl_base.specs.declared.flow.Key.{Key}
use Rattle.pfl_track.specs.declared.key_pair.KeyPair.{KeyPair}
use Rattle.pfl_track.specs.declared.peer.Peer.{Peer}
use Rattle.pfl_wire.specs.declared.action.Action.{Action}
use Rattle.pfl_wire.specs.declared.action.Action.TheVariants as action
use Rattle.pfl_wire.specs.declared.message.Message.{Message}
use Rattle.pfl_wire.specs.declared.message.Message.TheVariants.{Clear, Insert, InsertAck, Update, UpdateShort, UpdateRequest, Delete, DeleteShort, Bulk}
use Rattle.pfl_wire.specs.declared.subheader.Subheader.{Subheader}
use Rattle.pfl_wire.specs.declared.fault.BadFrame.{BadFrame}
use Rattle.pfl_wire.specs.declared.fault.BadFrame.TheVariants as bad
use Rattle.pfl_wire.specs.Frames.{FitsMessage, IsGroup, action_of}
use Rattle.pfl_wire.specs.Actions.{action_number, action_with, record_len}
use Rattle.pfl_wire.specs.Spelling.{number_bytes, name_bytes, peer_bytes, address_bytes, end_bytes, key_bytes, keys_bytes, class_bytes, state_bytes}
use Rattle.pfl_wire.specs.Spelling.{update_bytes, status_byte, record_bytes, group_bytes}
use Rattle.pfl_wire.specs.Fields.{Read, ◌>>=◌, wanted, byte_at, number_at, pads_at, name_at, status_of}
use Rattle.pfl_wire.specs.Records.{state_at, update_at, clear_at, bulk_at, read_as, record_at}
use Rattle.pfl_wire.specs.Reading.{records_at, is_counted, subheader_at, group_at, groups_at}
use Rattle.pfl_wire.proofs.Fields.{IsBytes, bind_then, wanted_ok, both_true, ok_is, Takes, Takes-then, byte_takes, number_takes, number_again}
use Rattle.pfl_wire.proofs.Fields.{length-number_bytes, pads_take, pads_again}
use Rattle.pfl_wire.proofs.Values.{ok_or_ok, status_back, status_again, action_back, action_again}
use Rattle.pfl_wire.proofs.RecordBytes.{bind_again, wanted_again, le_test, Takes-byte, name_takes, name_again, state_takes, state_again, update_takes}
use Rattle.pfl_wire.proofs.RecordBytes.{update_again}

-- what is read of a record
pub record IsRead (a : Action) (bytes : List ℕ) (x : Message × List ℕ) : Type 0 where
  pub takes : Takes bytes (record_bytes x.0) x.1
  pub fits : FitsMessage x.0
  pub action : action_of x.0 ≡ a

read_as_ok : {X P : Type 0} (make : X → Message) (r : Read X) (x : Message × List ℕ) → read_as make r ≡ Ok x
    → ((y : X × List ℕ) → r ≡ Ok y → (make y.0, y.1) ≡ x → P) → P
read_as_ok make (Ok y) x e next = next y refl (ok_is (make y.0, y.1) x e)
read_as_ok make (Err f) x e next = absurd cc

clear_takes : (bytes : List ℕ) (x : Message × List ℕ) → IsBytes bytes → clear_at bytes ≡ Ok x → IsRead action.Clear bytes x
unfolding clear_at record_bytes
clear_takes bytes x fits e =
    bind_then (number_at 4 bytes) _ x e (λ creator creator_is e1.
    bind_then (number_at 8 creator.1) _ x e1 (λ bound bound_is e2.
    let t0 = number_takes 4 bytes creator fits creator_is in
    let t1 = number_takes 8 creator.1 bound t0.0.rest_fits bound_is in
    let made : Message × List ℕ = (Clear creator.0 bound.0, bound.1) in
    subst (λ (y : Message × List ℕ). IsRead action.Clear bytes y) (ok_is made x e2)
    (record { takes = Takes-then _ _ _ _ _ t0.0 t1.0; fits = (t0.1, t1.1); action = refl })))

bulk_takes : (bytes : List ℕ) (x : Message × List ℕ) → IsBytes bytes → bulk_at bytes ≡ Ok x → IsRead action.Bulk bytes x
unfolding bulk_at record_bytes
bulk_takes bytes x fits e =
    bind_then (number_at 4 bytes) _ x e (λ creator creator_is e1.
    bind_then (byte_at creator.1) _ x e1 (λ number number_is e2.
    bind_then (status_of number.0) _ x e2 (λ status status_is e3.
    bind_then (pads_at 3 number.1) _ x e3 (λ pads pads_is e4.
    let t0 = number_takes 4 bytes creator fits creator_is in
    let t1 = byte_takes creator.1 number t0.0.rest_fits number_is in
    let t2 = pads_take 3 number.1 pads t1.0.rest_fits pads_is in
    let b1 = Takes-byte creator.1 number.1 number.0 (status_byte status) t1.0 (status_back number.0 status status_is) in
    let made : Message × List ℕ = (Bulk creator.0 status, pads) in
    subst (λ (y : Message × List ℕ). IsRead action.Bulk bytes y) (ok_is made x e4)
    (record { takes = Takes-then _ _ _ _ _ (Takes-then _ _ _ _ _ t0.0 b1) t2; fits = t0.1; action = refl })))))

pub record_takes : (a : Action) (bytes : List ℕ) (x : Message × List ℕ) → IsBytes bytes → record_at a bytes ≡ Ok x → IsRead a bytes x
unfolding record_at record_bytes
record_takes action.Clear bytes x fits e = clear_takes bytes x fits e
record_takes action.Insert bytes x fits e = read_as_ok Insert (state_at bytes) x e (λ y is made.
    let t = state_takes bytes y fits is in
    subst (λ (z : Message × List ℕ). IsRead action.Insert bytes z) made (record { takes = t.0; fits = t.1; action = refl }))
record_takes action.InsertAck bytes x fits e = read_as_ok InsertAck (name_at bytes) x e (λ y is made.
    let t = name_takes bytes y fits is in
    subst (λ (z : Message × List ℕ). IsRead action.InsertAck bytes z) made (record { takes = t.0; fits = t.1; action = refl }))
record_takes action.Update bytes x fits e = read_as_ok Update (state_at bytes) x e (λ y is made.
    let t = state_takes bytes y fits is in
    subst (λ (z : Message × List ℕ). IsRead action.Update bytes z) made (record { takes = t.0; fits = t.1; action = refl }))
record_takes action.UpdateShort bytes x fits e = read_as_ok UpdateShort (update_at bytes) x e (λ y is made.
    let t = update_takes bytes y fits is in
    subst (λ (z : Message × List ℕ). IsRead action.UpdateShort bytes z) made (record { takes = t.0; fits = t.1; action = refl }))
record_takes action.UpdateRequest bytes x fits e = read_as_ok UpdateRequest (name_at bytes) x e (λ y is made.
    let t = name_takes bytes y fits is in
    subst (λ (z : Message × List ℕ). IsRead action.UpdateRequest bytes z) made (record { takes = t.0; fits = t.1; action = refl }))
record_takes action.Delete bytes x fits e = read_as_ok Delete (state_at bytes) x e (λ y is made.
    let t = state_takes bytes y fits is in
    subst (λ (z : Message × List ℕ). IsRead action.Delete bytes z) made (record { takes = t.0; fits = t.1; action = refl }))
record_takes action.DeleteShort bytes x fits e = read_as_ok DeleteShort (name_at bytes) x e (λ y is made.
    let t = name_takes bytes y fits is in
    subst (λ (z : Message × List ℕ). IsRead action.DeleteShort bytes z) made (record { takes = t.0; fits = t.1; action = refl }))
record_takes action.Bulk bytes x fits e = bulk_takes bytes x fits e

pub record_again : (m : Message) (rest : List ℕ) → FitsMessage m → record_at (action_of m) (record_bytes m ++ rest) ≡ Ok (m, rest)
unfolding record_at record_bytes clear_at bulk_at
record_again (Clear creator bound) rest fits =
    simp append_assoc (bind_again _ _ _ _ (number_again 4 creator _ fits.0) (bind_again _ _ _ _ (number_again 8 bound rest fits.1) refl))
record_again (Insert s) rest fits = ap (read_as Insert) (state_again s rest fits)
record_again (InsertAck n) rest fits = ap (read_as InsertAck) (name_again n rest fits)
record_again (Update s) rest fits = ap (read_as Update) (state_again s rest fits)
record_again (UpdateShort u) rest fits = ap (read_as UpdateShort) (update_again u rest fits)
record_again (UpdateRequest n) rest fits = ap (read_as UpdateRequest) (name_again n rest fits)
record_again (Delete s) rest fits = ap (read_as Delete) (state_again s rest fits)
record_again (DeleteShort n) rest fits = ap (read_as DeleteShort) (name_again n rest fits)
record_again (Bulk creator status) rest fits =
    simp append_assoc (bind_again _ _ _ _ (number_again 4 creator _ fits)
    (bind_again _ _ _ _ (status_again status) (bind_again _ _ _ _ (pads_again 3 rest) refl)))

-- ---- lengths

length-name_bytes : (n : StateName) → length (name_bytes n) ≡ 12
unfolding name_bytes
length-name_bytes n = simp (length-append, length-number_bytes)

length-peer_bytes : (p : Peer) → length (peer_bytes p) ≡ 12
unfolding peer_bytes
length-peer_bytes p = simp (length-append, length-number_bytes)

length-end_bytes : (e : End) → length (end_bytes e) ≡ 18
unfolding end_bytes
length-end_bytes e = simp (length-append, length-number_bytes) (omega (arith, address e.addr))
  where
    address : (a : Addr) → length (address_bytes a) ≡ 16
    address (V4 a) = simp (length-append, length-number_bytes)
    address (V6 a) = length-number_bytes 16 a

length-key_bytes : (k : Key) → length (key_bytes k) ≡ 36
unfolding key_bytes
length-key_bytes k = simp (length-append, length-end_bytes)

length-keys_bytes : (k : KeyPair) → length (keys_bytes k) ≡ 72
unfolding keys_bytes
length-keys_bytes k = simp (length-append, length-key_bytes)

pub length-record_bytes : (m : Message) → length (record_bytes m) ≡ record_len (action_of m)
unfolding record_bytes state_bytes update_bytes class_bytes
length-record_bytes (Clear creator bound) = simp (length-append, length-number_bytes)
length-record_bytes (Insert s) = simp (length-append, length-number_bytes, length-name_bytes, length-peer_bytes, length-keys_bytes)
length-record_bytes (InsertAck n) = length-name_bytes n
length-record_bytes (Update s) = simp (length-append, length-number_bytes, length-name_bytes, length-peer_bytes, length-keys_bytes)
length-record_bytes (UpdateShort u) = simp (length-append, length-number_bytes, length-name_bytes, length-peer_bytes)
length-record_bytes (UpdateRequest n) = length-name_bytes n
length-record_bytes (Delete s) = simp (length-append, length-number_bytes, length-name_bytes, length-peer_bytes, length-keys_bytes)
length-record_bytes (DeleteShort n) = length-name_bytes n
length-record_bytes (Bulk creator status) = simp (length-append, length-number_bytes)

-- ---- records

abbrev pub AreOf : Action → List Message → Type 0
AreOf a ms = AllByRecursion (λ m. action_of m ≡ a) ms

-- what is read of n records
pub record AreRead (a : Action) (n : ℕ) (bytes : List ℕ) (x : List Message × List ℕ) : Type 0 where
  pub takes : Takes bytes (flat_map record_bytes x.0) x.1
  pub count : length x.0 ≡ n
  pub fit : AllByRecursion FitsMessage x.0
  pub action : AreOf a x.0

pub records_take : (a : Action) (n : ℕ) (bytes : List ℕ) (x : List Message × List ℕ) → IsBytes bytes → records_at a n bytes ≡ Ok x → AreRead a n bytes x
unfolding records_at
records_take a zero bytes x fits e =
    subst (λ (y : List Message × List ℕ). AreRead a 0 bytes y) (ok_is ([], bytes) x e)
    (record { takes = record { parts = refl; rest_fits = fits }; count = refl; fit = tt; action = tt })
records_take a (suc n) bytes x fits e =
    bind_then (record_at a bytes) _ x e (λ first first_is e1.
    bind_then (records_at a n first.1) _ x e1 (λ rest rest_is e2.
    let t0 = record_takes a bytes first fits first_is in
    let t1 = records_take a n first.1 rest t0.takes.rest_fits rest_is in
    let made : List Message × List ℕ = (first.0 ∷ rest.0, rest.1) in
    subst (λ (y : List Message × List ℕ). AreRead a (suc n) bytes y) (ok_is made x e2)
    (record {
      takes = rw flat_map-cons (Takes-then _ _ _ _ _ t0.takes t1.takes);
      count = ap suc t1.count;
      fit = (t0.fits, t1.fit);
      action = (t0.action, t1.action);
    })))

pub records_again : (a : Action) (ms : List Message) (rest : List ℕ) → AreOf a ms → AllByRecursion FitsMessage ms
    → records_at a (length ms) (flat_map record_bytes ms ++ rest) ≡ Ok (ms, rest)
unfolding records_at
records_again a [] rest are fit = refl
records_again a (m ∷ ms) rest are fit =
    let regrouped : flat_map record_bytes (m ∷ ms) ++ rest ≡ record_bytes m ++ (flat_map record_bytes ms ++ rest) =
    ap (λ (x : List ℕ). x ++ rest) (flat_map-cons record_bytes m ms) ∙ append_assoc (record_bytes m) (flat_map record_bytes ms) rest in
    let first : record_at a (record_bytes m ++ (flat_map record_bytes ms ++ rest)) ≡ Ok (m, flat_map record_bytes ms ++ rest) =
    subst (λ (b : Action). record_at b (record_bytes m ++ (flat_map record_bytes ms ++ rest))
    ≡ Ok (m, flat_map record_bytes ms ++ rest)) are.0 (record_again m (flat_map record_bytes ms ++ rest) fit.0) in
    ap (records_at a (suc (length ms))) regrouped ∙ bind_again _ _ _ _ first (bind_again _ _ _ _ (records_again a ms rest are.1 fit.1) refl)

pub length-records : (a : Action) (ms : List Message) → AreOf a ms → length (flat_map record_bytes ms) ≡ length ms * record_len a
length-records a [] are = omega arith
length-records a (m ∷ ms) are =
    let one : length (record_bytes m) ≡ record_len a = length-record_bytes m ∙ ap record_len are.0 in
    ap length (flat_map-cons record_bytes m ms) ∙ length-append (record_bytes m) (flat_map record_bytes ms)
    ∙ sum one (length-records a ms are.1) ∙ sym (suc-mul (length ms) (record_len a))
  where
    sum : {p q r s : ℕ} → p ≡ r → q ≡ s → p + q ≡ s + r
    sum e f = omega (arith, e, f)

-- ---- groups

-- what is read of a group
pub record IsGroupRead (bytes : List ℕ) (x : List Message × List ℕ) : Type 0 where
  pub takes : Takes bytes (group_bytes x.0) x.1
  pub is : IsGroup x.0

same_action : (a : Action) (m : Message) (ms : List Message) → action_of m ≡ a → AreOf a ms → AllByRecursion (λ n. action_of n ≡ action_of m) ms
same_action a m [] is are = tt
same_action a m (n ∷ ms) is are = (are.0 ∙ sym is, same_action a m ms is are.1)

-- records with their four bytes in front are a group
grouped : (a : Action) (count : ℕ) (bytes rest : List ℕ) (ms : List Message) → 0 < count → count < 2 ^ 16 → length ms ≡ count → AreOf a ms
    → AllByRecursion FitsMessage ms
    → Takes bytes ((action_number a ∷ []) ++ (0 ∷ []) ++ number_bytes 2 count ++ flat_map record_bytes ms) rest → Takes bytes (group_bytes ms) rest × IsGroup ms
unfolding group_bytes
grouped a count bytes rest [] some few len are fit takes = absurd (omega arith)
grouped a count bytes rest (m ∷ ms) some few len are fit takes = (
  subst (λ (b : Action). Takes bytes ((action_number b ∷ []) ++ (0 ∷ []) ++ number_bytes 2 (length (m ∷ ms))
      ++ flat_map record_bytes (m ∷ ms)) rest) (sym are.0)
      (subst (λ (n : ℕ). Takes bytes ((action_number a ∷ []) ++ (0 ∷ []) ++ number_bytes 2 n ++ flat_map record_bytes (m ∷ ms)) rest) (sym len) takes),
  (omega arith, same_action a m ms are.0 are.1, fit),
)

lt_from : (n m : ℕ) → nat_lt n m ≡ true → n < m
lt_from n m e = grind (arith, nat_tests)

-- what is read of a subheader
pub record IsSubheaderRead (bytes : List ℕ) (x : Subheader × List ℕ) : Type 0 where
  pub takes : Takes bytes ((action_number x.0.action ∷ []) ++ (0 ∷ []) ++ number_bytes 2 x.0.count) x.1
  pub some : 0 < x.0.count
  pub few : x.0.count < 2 ^ 16

pub subheader_takes : (bytes : List ℕ) (x : Subheader × List ℕ) → IsBytes bytes → subheader_at bytes ≡ Ok x → IsSubheaderRead bytes x
unfolding subheader_at
subheader_takes bytes x fits e =
    bind_then (wanted (nat_le 4 (length bytes)) bad.Length) _ x e (λ long long_is e0.
    bind_then (byte_at bytes) _ x e0 (λ number number_is e1.
    bind_then (ok_or (action_with number.0) bad.Action) _ x e1 (λ a a_is e2.
    bind_then (byte_at number.1) _ x e2 (λ pad pad_is e3.
    bind_then (number_at 2 pad.1) _ x e3 (λ count count_is e4.
    bind_then (wanted (is_counted a count.0 count.1) bad.Count) _ x e4 (λ counted counted_is e5.
    bind_then (wanted (pad.0 == 0) bad.Value) _ x e5 (λ zero zero_is e6.
    let t0 = byte_takes bytes number fits number_is in
    let t1 = byte_takes number.1 pad t0.0.rest_fits pad_is in
    let t2 = number_takes 2 pad.1 count t1.0.rest_fits count_is in
    let b0 = Takes-byte bytes number.1 number.0 (action_number a) t0.0 (action_back number.0 a (ok_or_ok _ _ _ a_is)) in
    let b1 = Takes-byte number.1 pad.1 pad.0 0 t1.0 (sym (eqb-true pad.0 0 (wanted_ok _ _ _ zero_is))) in
    let c1 = Takes-then bytes (action_number a ∷ []) number.1 (0 ∷ []) pad.1 b0 b1 in
    let some = both_true (nat_lt 0 count.0) (nat_le (count.0 * record_len a) (length count.1)) (wanted_ok _ _ _ counted_is) in
    let made : Subheader × List ℕ = (record { action = a; count = count.0 }, count.1) in
    subst (λ (y : Subheader × List ℕ). IsSubheaderRead bytes y) (ok_is made x e6)
    (record { takes = Takes-then bytes _ pad.1 (number_bytes 2 count.0) count.1 c1 t2.0; some = lt_from 0 count.0 some.0; few = t2.1 }))))))))

pub group_takes : (bytes : List ℕ) (x : List Message × List ℕ) → IsBytes bytes → group_at bytes ≡ Ok x → IsGroupRead bytes x
unfolding group_at
group_takes bytes x fits e =
    bind_then (subheader_at bytes) _ x e (λ group group_is e1.
    let t0 = subheader_takes bytes group fits group_is in
    let t1 = records_take group.0.action group.0.count group.1 x t0.takes.rest_fits e1 in
    let whole = Takes-then bytes _ group.1 (flat_map record_bytes x.0) x.1 t0.takes t1.takes in
    let g = grouped group.0.action group.0.count bytes x.1 x.0 t0.some t0.few t1.count t1.action t1.fit whole in
    record { takes = g.0; is = g.1 })

both_are : (a b : Bool) → a ≡ true → b ≡ true → a && b ≡ true
both_are a b e f = ap (λ (c : Bool). c && b) e ∙ f

four : (a b : ℕ) (c rest : List ℕ) → length c ≡ 2 → nat_le 4 (length (a ∷ b ∷ (c ++ rest))) ≡ true
four a b c rest h = le_test 4 (length (a ∷ b ∷ (c ++ rest))) (omega (arith, length-append c rest, h))

all_of_one : (m : Message) (ms : List Message) → AllByRecursion (λ n. action_of n ≡ action_of m) ms → AreOf (action_of m) (m ∷ ms)
all_of_one m ms are = (refl, are)

subheader_again : (a : Action) (n : ℕ) (rest : List ℕ) → 0 < n → n < 2 ^ 16 → n * record_len a ≤ length rest
    → subheader_at (action_number a ∷ 0 ∷ (number_bytes 2 n ++ rest)) ≡ Ok (record { action = a; count = n }, rest)
unfolding subheader_at
subheader_again a n rest some few room =
    bind_again _ _ _ _ (wanted_again _ bad.Length (four (action_number a) 0 (number_bytes 2 n) rest (length-number_bytes 2 n)))
    (bind_again _ _ _ _ (ap (λ (o : Option Action). ok_or o bad.Action) (action_again a))
    (bind_again _ _ _ _ (number_again 2 n rest few)
    (bind_again _ _ _ _ (wanted_again (is_counted a n rest) bad.Count (both_are _ _ (lt_test 0 n some) (le_test _ _ room)))
    refl)))
  where
    lt_test : (n m : ℕ) → n < m → nat_lt n m ≡ true
    lt_test n m lt = grind (arith, nat_tests)

pub group_again : (g : List Message) (rest : List ℕ) → IsGroup g → group_at (group_bytes g ++ rest) ≡ Ok (g, rest)
unfolding group_at group_bytes
group_again [] rest is = absurd is
group_again (m ∷ ms) rest is =
    let are : AreOf (action_of m) (m ∷ ms) = all_of_one m ms is.1 in
    let regrouped : group_bytes (m ∷ ms) ++ rest ≡ action_number (action_of m) ∷ 0
    ∷ (number_bytes 2 (length (m ∷ ms)) ++ (flat_map record_bytes (m ∷ ms) ++ rest)) =
    ap (λ (t : List ℕ). action_number (action_of m) ∷ 0 ∷ t) (append_assoc (number_bytes 2 (length (m ∷ ms))) (flat_map record_bytes (m ∷ ms)) rest) in
    let room : length (m ∷ ms) * record_len (action_of m) ≤ length (flat_map record_bytes (m ∷ ms) ++ rest) =
    omega (arith, length-append (flat_map record_bytes (m ∷ ms)) rest, length-records (action_of m) (m ∷ ms) are) in
    ap group_at regrouped
    ∙ bind_again _ _ _ _ (subheader_again (action_of m) (length (m ∷ ms)) (flat_map record_bytes (m ∷ ms) ++ rest) (omega arith) is.0 room)
    (records_again (action_of m) (m ∷ ms) rest are is.2)

-- a group takes four bytes at least
group_least : (g : List Message) (rest : List ℕ) → IsGroup g → length rest + 4 ≤ length (group_bytes g ++ rest)
unfolding group_bytes
group_least [] rest is = absurd is
group_least (m ∷ ms) rest is =
    omega (
      arith,
      length-append (number_bytes 2 (length (m ∷ ms)) ++ flat_map record_bytes (m ∷ ms)) rest,
      length-append
          (number_bytes 2 (length (m ∷ ms))) (flat_map record_bytes (m ∷ ms)),
      length-number_bytes 2 (length (m ∷ ms)),
    )

pub group_shorter : (bytes : List ℕ) (x : List Message × List ℕ) → IsBytes bytes → group_at bytes ≡ Ok x → length x.1 + 4 ≤ length bytes
group_shorter bytes x fits e =
    let t = group_takes bytes x fits e in
    omega (arith, ap length t.takes.parts, group_least x.0 x.1 t.is)

-- ---- groups to the end

-- what is read of groups
pub record AreGroupsRead (bytes : List ℕ) (x : List (List Message) × List ℕ) : Type 0 where
  pub whole : bytes ≡ flat_map group_bytes x.0
  pub are : AllByRecursion IsGroup x.0

pub groups_take : (fuel : ℕ) (bytes : List ℕ) (x : List (List Message) × List ℕ) → IsBytes bytes → groups_at fuel bytes ≡ Ok x → AreGroupsRead bytes x
unfolding groups_at
groups_take fuel [] x fits e = subst (λ (y : List (List Message) × List ℕ). AreGroupsRead [] y) (ok_is ([], []) x e) (record { whole = refl; are = tt })
groups_take zero (b ∷ bytes) x fits e = absurd cc
groups_take (suc fuel) (b ∷ bytes) x fits e =
    bind_then (group_at (b ∷ bytes)) _ x e (λ first first_is e1.
    bind_then (groups_at fuel first.1) _ x e1 (λ rest rest_is e2.
    let t0 = group_takes (b ∷ bytes) first fits first_is in
    let t1 = groups_take fuel first.1 rest t0.takes.rest_fits rest_is in
    let made : List (List Message) × List ℕ = (first.0 ∷ rest.0, rest.1) in
    subst (λ (y : List (List Message) × List ℕ). AreGroupsRead (b ∷ bytes) y) (ok_is made x e2)
    (record {
      whole = t0.takes.parts ∙ ap (λ (t : List ℕ). group_bytes first.0 ++ t) t1.whole
          ∙ sym (flat_map-cons group_bytes first.0 rest.0);
      are = (t0.is, t1.are);
    })))

-- steps that go on alike from what was read
pub bind_same : {A B : Type 0} (r : Result A BadFrame) (f g : A → Result B BadFrame) → ((x : A) → r ≡ Ok x → f x ≡ g x) → (r >>= f) ≡ (r >>= g)
bind_same (Ok x) f g h = h x refl
bind_same (Err e) f g h = refl

-- more fuel than bytes changes nothing
pub groups_enough : (f g : ℕ) (bytes : List ℕ) → IsBytes bytes → length bytes ≤ f → length bytes ≤ g → groups_at f bytes ≡ groups_at g bytes
unfolding groups_at
groups_enough zero zero bytes fits p q = refl
groups_enough zero (suc g) [] fits p q = refl
groups_enough (suc f) zero [] fits p q = refl
groups_enough (suc f) (suc g) [] fits p q = refl
groups_enough zero (suc g) (b ∷ bytes) fits p q = absurd (omega arith)
groups_enough (suc f) zero (b ∷ bytes) fits p q = absurd (omega arith)
groups_enough (suc f) (suc g) (b ∷ bytes) fits p q =
    bind_same (group_at (b ∷ bytes)) (λ first. groups_at f first.1 >>= λ rest. Ok (first.0 ∷ rest.0, rest.1))
    (λ first. groups_at g first.1 >>= λ rest. Ok (first.0 ∷ rest.0, rest.1))
    (λ first is. let less = group_shorter (b ∷ bytes) first fits is in
    ap (λ (r : Read (List (List Message))). r >>= λ rest. Ok (first.0 ∷ rest.0, rest.1))
    (groups_enough f g first.1 (group_takes (b ∷ bytes) first fits is).takes.rest_fits (omega arith) (omega arith)))

-- one group of them
pub groups_step : (fuel : ℕ) (bytes : List ℕ) (g : List Message) (rest : List ℕ) → 0 < length bytes → group_at bytes ≡ Ok (g, rest)
    → groups_at (suc fuel) bytes ≡ (groups_at fuel rest >>= λ x. Ok (g ∷ x.0, x.1))
unfolding groups_at
groups_step fuel [] g rest some e = absurd (omega arith)
groups_step fuel (b ∷ bytes) g rest some e = bind_again _ _ _ _ e refl

pub groups_again : (fuel : ℕ) (gs : List (List Message)) → AllByRecursion IsGroup gs → length (flat_map group_bytes gs) ≤ fuel
    → groups_at fuel (flat_map group_bytes gs) ≡ Ok (gs, [])
unfolding groups_at
groups_again fuel [] are enough = refl
groups_again zero (g ∷ gs) are enough =
    absurd (omega (arith, group_least g (flat_map group_bytes gs) are.0, ap length (flat_map-cons group_bytes g gs)))
groups_again (suc fuel) (g ∷ gs) are enough =
    let least = group_least g (flat_map group_bytes gs) are.0 in
    let len = ap length (flat_map-cons group_bytes g gs) in
    groups_step fuel (flat_map group_bytes (g ∷ gs)) g (flat_map group_bytes gs) (omega (arith, least, len))
    (ap group_at (flat_map-cons group_bytes g gs) ∙ group_again g (flat_map group_bytes gs) are.0)
    ∙ bind_again _ _ _ _ (groups_again fuel gs are.1 (omega (arith, least, len))) refl
