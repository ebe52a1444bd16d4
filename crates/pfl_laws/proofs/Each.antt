-- What is so of each state of a node stays so by a record of the peer's, if it is so of what is taken over and of what is merged:
-- each is a state, and each has a name that was given.
use Rattle.std.specs.Prelude.{◌≡◌, ◌<◌, ℕ, Bool, true, false, not, ◌&&◌, Option, Some, None, IfSome}
use Rattle.std.proofs.Common.{◌∙◌, cond, sym, subst, inl, inr}
use Rattle.pfl_base.specs.declared.kernel.Kernel.{Kernel}
use Rattle.pfl_base.specs.declared.state_name.StateName.{StateName}
use Rattle.pfl_edits.specs.Maps as maps
use Rattle.pfl_world.specs.track.declared.peer.Peer.{Peer}
use Rattle.pfl_world.specs.track.declared.state.State.{State}
use Rattle.pfl_world.specs.track.Peers.{IsPeer}
use Rattle.pfl_world.specs.track.States.{IsState}
use Rattle.pfl_world.specs.table.Tables.{States}
use Rattle.pfl_world.specs.wire.declared.message.Message.{Message}
use Rattle.pfl_world.specs.wire.declared.message.Message.TheVariants as message
use Rattle.pfl_world.specs.wire.declared.message.StateRecord.{StateRecord}
use Rattle.pfl_world.specs.merge.declared.received.Received.{Received}
use Rattle.pfl_world.specs.merge.Merging.{merged, refreshed, keeps_dst, stale_src, stale_dst}
use Rattle.pfl_world.specs.desk.Nodes.{Node}
use Rattle.pfl_world.specs.receive.Bringing.{whole_in, received_in}
use Rattle.pfl_world.specs.receive.Receiving.{taken, import_fault, imported}
use Rattle.pfl_world.proofs.ForCallers.receive.{may-import}
use Rattle.pfl_laws.proofs.Following.{Alike, Filed, waiting-is}
use Rattle.pfl_laws.proofs.Merged.{merged-name}
use Rattle.pfl_laws.proofs.Records.{record-arrives}
use Rattle.pfl_laws.proofs.Waiting.{AreGiven}
use Rattle.pfl_laws.proofs.Reading.{IsWhole, IsRecord}

-- ---- any property

-- what each state has, however it waits and whatever it has counted
module _ (P : State → Type 0) (still : (s : State) (ack : Bool) (updates : ℕ) → P s → P (record s { ack_wanted = ack; updates = updates })) where
  abbrev pub Each : States → Type 0
  Each m = (q : StateName) (s : State) → maps.get m q ≡ Some s → P s

  -- what a record has to bring: of a state without a fault, and of what is merged
  abbrev pub Brings : Node → Message → Type 0
  Brings n m = ((r : StateRecord) → whole_in m ≡ Some r → import_fault n r ≡ None → (b : Bool) → P (imported n b r))
      × ((r : Received) → received_in m ≡ Some r → (s : State) (seconds now : ℕ) → P s → P (merged n.limits.kernel s r seconds now).state)

  -- whatever was so of a state is so of what follows it
  abbrev Carries : State → State → Type 0
  Carries s t = P s → P t

  alike-carries : (s t : State) → Alike s t → Carries s t
  alike-carries s t e is = subst P (sym e) (still s t.ack_wanted t.updates is)

  pub each-record : (n : Node) (b : Bool) (m : Message) → Filed n.states → Brings n m → Each n.states → Each (taken n b m).states
  each-record n b m filed brings each q t at =
      elim (record-arrives Carries alike-carries n b m filed
      (λ s r brought own seconds now updates is.
      still (merged n.limits.kernel s r seconds now).state false updates (brings.1 r brought s seconds now is)) q t at) [
        | inl from ↦ from.so (each q from.state from.at)
        | inr new ↦ subst P (sym new.1.is) (brings.0 new.1.sent new.1.brought new.1.free new.1.same_rules)
      ]

-- ---- each is a state

one_of : (b : Bool) (x y : Peer) → IsPeer x → IsPeer y → IsPeer (cond b x y)
one_of true x y k l = k
one_of false x y k l = l

merged-is : (k : Kernel) (s : State) (r : Received) (seconds now : ℕ) → IsPeer r.src → IsPeer r.dst → IsState s
    → IsState (merged k s r seconds now).state
merged-is k s r seconds now src dst is = by (not (stale_src s r && stale_dst s r))
  where
    src_is : IsPeer (cond (stale_src s r) s.src r.src)
    src_is = one_of (stale_src s r) s.src r.src is.src src

    dst_is : IsPeer (cond (keeps_dst k s r) s.dst r.dst)
    dst_is = one_of (keeps_dst k s r) s.dst r.dst is.dst dst

    with_ends : State
    with_ends = record s { src = cond (stale_src s r) s.src r.src; dst = cond (keeps_dst k s r) s.dst r.dst; peer_change = Some now }

    is_with : IsState with_ends
    is_with = record {
      src = src_is;
      dst = dst_is;
      proto = is.proto;
      one_proto = is.one_proto;
      wire_family = is.wire_family;
      stack_family = is.stack_family;
      one_family = is.one_family;
    }

    by : (b : Bool) → IsState (refreshed k b with_ends r seconds now)
    by true = record {
      src = src_is;
      dst = dst_is;
      proto = is.proto;
      one_proto = is.one_proto;
      wire_family = is.wire_family;
      stack_family = is.stack_family;
      one_family = is.one_family;
    }
    by false = is_with

imported-is : (n : Node) (b : Bool) (r : StateRecord) → IsWhole r → IsState (imported n b r)
imported-is n b r is = record {
  src = is.src;
  dst = is.dst;
  proto = is.keys.proto;
  one_proto = is.keys.one_proto;
  wire_family = is.keys.wire_family;
  stack_family = is.keys.stack_family;
  one_family = is.keys.one_family;
}

-- if it has the name, it is a state
abbrev pub IsOne : StateName → State → Type 0
IsOne q s = s.name ≡ q → IsState s

still-one : (q : StateName) (s : State) (ack : Bool) (updates : ℕ) → IsOne q s → IsOne q (record s { ack_wanted = ack; updates = updates })
still-one q s ack updates one same = waiting-is s ack updates (one same)

-- what a record brings whole is a state, and of what it brings of one the ends are ends
brought-is : (m : Message) → IsRecord m → IfSome (whole_in m) IsWhole × IfSome (received_in m) (λ r. IsPeer r.src × IsPeer r.dst)
brought-is (message.Clear creator bound) is = (tt, tt)
brought-is (message.Insert r) is = (is, tt)
brought-is (message.InsertAck name) is = (tt, tt)
brought-is (message.Update r) is = (is, (is.src, is.dst))
brought-is (message.UpdateShort u) is = (tt, is)
brought-is (message.UpdateRequest name) is = (tt, tt)
brought-is (message.Delete r) is = (tt, tt)
brought-is (message.DeleteShort name) is = (tt, tt)
brought-is (message.Bulk creator status) is = (tt, tt)

record-brings : (q : StateName) (n : Node) (m : Message) → IsRecord m → Brings (IsOne q) (still-one q) n m
record-brings q n m is = (
  λ r brought free b same. imported-is n b r (subst (λ (o : Option StateRecord). IfSome o IsWhole) brought (brought-is m is).0),
  λ r brought s seconds now one same.
      let ends = subst (λ (o : Option Received). IfSome o (λ e. IsPeer e.src × IsPeer e.dst)) brought (brought-is m is).1 in
      merged-is n.limits.kernel s r seconds now ends.0 ends.1 (one (sym (merged-name n.limits.kernel s r seconds now) ∙ same)),
)

-- what stands under the name at the node is a state
abbrev pub StandsRightly : StateName → Node → Type 0
StandsRightly q n = (k : StateName) (s : State) → maps.get n.states k ≡ Some s → s.name ≡ q → IsState s

pub taken-rightly : (q : StateName) (n : Node) (b : Bool) (m : Message) → Filed n.states → IsRecord m → StandsRightly q n → StandsRightly q (taken n b m)
taken-rightly q n b m filed is each = each-record (IsOne q) (still-one q) n b m filed (record-brings q n m is) each

-- ---- each has a name that was given

-- a name of the boot is below the next id
abbrev Low : ℕ → ℕ → State → Type 0
Low creator next s = s.name.creator ≡ creator → s.name.id < next

low-still : (creator next : ℕ) (s : State) (ack : Bool) (updates : ℕ) → Low creator next s → Low creator next (record s { ack_wanted = ack; updates = updates })
low-still creator next s ack updates low = low

low-brings : (n : Node) (m : Message) → Brings (Low n.creator n.next_id) (low-still n.creator n.next_id) n m
low-brings n m = (
  λ r brought free b. (may-import n r free).given,
  λ r brought s seconds now low.
      subst (λ (name : StateName). name.creator ≡ n.creator → name.id < n.next_id) (sym (merged-name n.limits.kernel s r seconds now)) low,
)

-- the node gives no name by a record
pub taken-given : (n : Node) (b : Bool) (m : Message) → Filed n.states → Filed (taken n b m).states → (taken n b m).creator ≡ n.creator
    → (taken n b m).next_id ≡ n.next_id → AreGiven n → AreGiven (taken n b m)
taken-given n b m filed filed_on creator next given q t at =
    let all = each-record (Low n.creator n.next_id) (low-still n.creator n.next_id) n b m filed (low-brings n m)
    (λ name s stands. subst (λ (k : StateName). k.creator ≡ n.creator → k.id < n.next_id) (sym (filed name s stands)) (given name s stands)) in
    let low = subst (λ (k : StateName). k.creator ≡ n.creator → k.id < n.next_id) (filed_on q t at) (all q t at) in
    λ own. subst (λ (limit : ℕ). q.id < limit) (sym next) (low (own ∙ creator))
