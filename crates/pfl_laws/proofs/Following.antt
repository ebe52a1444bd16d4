-- A state that follows another under one name: how far they are the same, and where the later one comes from.
use Rattle.std.specs.Prelude.{◌≡◌, ℕ, Bool, Some, None, refl}
use Rattle.std.proofs.Common.{◌∙◌, ap, sym, subst, arith, inl, inr}
use Rattle.pfl_base.specs.declared.direction.Dir.{Dir}
use Rattle.pfl_base.specs.declared.kernel.Kernel.{Kernel}
use Rattle.pfl_base.specs.declared.packet.Packet.{Packet}
use Rattle.pfl_base.specs.declared.state_name.StateName.{StateName}
use Rattle.pfl_base.proofs.ForCallers.{names_total, names_exact}
use Rattle.pfl_base.specs.Packets.{IsPacket}
use Rattle.pfl_edits.specs.Maps as maps
use Rattle.pfl_edits.proofs.ForCallers.{get-set_at_cases, some_is_none}
use Rattle.pfl_world.specs.track.declared.state.State.{State}
use Rattle.pfl_world.specs.track.declared.tracked.Tracked.TheVariants.{Moved}
use Rattle.pfl_world.specs.track.Laws.{RisesInRange}
use Rattle.pfl_world.specs.track.States.{IsState}
use Rattle.pfl_world.specs.track.Rules.{tracked_by}
use Rattle.pfl_world.proofs.ForCallers.track.{lowers-none, stays-state}
use Rattle.pfl_world.specs.table.Tables.{States}

-- ---- states

-- the state waits otherwise, or has counted otherwise, and else is the same
abbrev pub Alike : State → State → Type 0
Alike s t = t ≡ record s { ack_wanted = t.ack_wanted; updates = t.updates }

pub Alike-itself : (s : State) → Alike s s
Alike-itself s = refl

pub Alike-then : (s t u : State) → Alike s t → Alike t u → Alike s u
Alike-then s t u e f = f ∙ ap (λ (v : State). record v { ack_wanted = u.ack_wanted; updates = u.updates }) e

-- the levels have risen; and under the condition a state has stayed one
pub record Follows (C : Type 0) (s t : State) : Type 0 where
  pub rises : IsState s → RisesInRange s t
  pub is : C → IsState s → IsState t

-- how it waits, and what it has counted, is no matter
pub waiting-is : (s : State) (ack : Bool) (updates : ℕ) → IsState s → IsState (record s { ack_wanted = ack; updates = updates })
waiting-is s ack updates is = record {
  src = is.src;
  dst = is.dst;
  proto = is.proto;
  one_proto = is.one_proto;
  wire_family = is.wire_family;
  stack_family = is.stack_family;
  one_family = is.one_family;
}

waiting-rises : (s t : State) (ack : Bool) (updates : ℕ) → RisesInRange s t → RisesInRange s (record t { ack_wanted = ack; updates = updates })
waiting-rises s t ack updates r = record { src = r.src; dst = r.dst; src_most = r.src_most; dst_most = r.dst_most }

pub stands-rises : (s : State) → IsState s → RisesInRange s s
stands-rises s is = record { src = omega arith; dst = omega arith; src_most = is.src.level; dst_most = is.dst.level }

-- a state that is alike follows
pub alike-follows : (C : Type 0) (s t : State) → Alike s t → Follows C s t
alike-follows C s t e = record {
  rises = λ is. subst (RisesInRange s) (sym e) (waiting-rises s s t.ack_wanted t.updates (stands-rises s is));
  is = λ holds is. subst IsState (sym e) (waiting-is s t.ack_wanted t.updates is);
}

-- and so does what follows that
pub alike-follows-then : (C : Type 0) (s t u : State) → Alike s t → Follows C t u → Follows C s u
alike-follows-then C s t u e f =
    let on : Follows C (record s { ack_wanted = t.ack_wanted; updates = t.updates }) u = subst (λ (v : State). Follows C v u) e f in
    record {
      rises = λ is. let r = on.rises (waiting-is s t.ack_wanted t.updates is)
          in record { src = r.src; dst = r.dst; src_most = r.src_most; dst_most = r.dst_most };
      is = λ holds is. on.is holds (waiting-is s t.ack_wanted t.updates is);
    }

-- a state that a packet moved follows too, whichever rules are the kernel's
pub moved-follows : (k : Kernel) (s : State) (p : Packet) (dir : Dir) (now : ℕ) (t : State) (ack : Bool) (updates : ℕ) → tracked_by k s p dir now ≡ Moved t
    → Follows (IsPacket p) s (record t { ack_wanted = ack; updates = updates })
moved-follows k s p dir now t ack updates e = record {
  rises = λ is. waiting-rises s t ack updates (lowers-none k s p dir now t is e);
  is = λ packet is. waiting-is t ack updates (stays-state k s p dir now t is packet e);
}

-- ---- what stands under a name

pub inner : {X : Type 0} (x y : X) → Some x ≡ Some y → x ≡ y
inner x y e = cc

-- a state stood under the name that leads to t
pub record From (R : State → State → Type 0) (m : States) (q : StateName) (t : State) : Type 0 where
  pub state : State
  pub at : maps.get m q ≡ Some state
  pub so : R state t

-- whatever stands under the name afterwards comes from what stood there
abbrev pub Comes : (State → State → Type 0) → States → States → StateName → Type 0
Comes R m k q = (t : State) → maps.get k q ≡ Some t → From R m q t

pub comes-then : (R S T : State → State → Type 0) (m k l : States) (q : StateName) → ((s t u : State) → R s t → S t u → T s u)
    → Comes R m k q → Comes S k l q → Comes T m l q
comes-then R S T m k l q on first next u at =
    let late = next u at in
    let early = first late.state late.at in
    record { state = early.state; at = early.at; so = on early.state late.state u early.so late.so }

-- where the states are the same
pub comes-same : (R : State → State → Type 0) (m k : States) (q : StateName) → ((s : State) → R s s) → k ≡ m → Comes R m k q
comes-same R m k q itself e t at = record { state = t; at = ap (λ (l : States). maps.get l q) (sym e) ∙ at; so = itself t }

-- a state is put
pub comes-put : (R : State → State → Type 0) (m : States) (u : State) (q : StateName) → ((s : State) → R s s) → (q ≡ u.name → From R m q u)
    → Comes R m (maps.insert m u.name u) q
comes-put R m u q itself here t at = elim (get-set_at_cases names_total names_exact m u.name (Some u) q t at) [
  | inl own ↦ subst (From R m q) (inner u t own.1) (here own.0)
  | inr other ↦ record { state = t; at = other.1; so = itself t }
]

-- a state is taken out
pub comes-removed : (m : States) (name q : StateName) → Comes Alike m (maps.remove m name) q
comes-removed m name q t at = elim (get-set_at_cases names_total names_exact m name None q t at) [
  | inl own ↦ absurd (some_is_none t (sym own.1))
  | inr other ↦ record { state = t; at = other.1; so = refl }
]

-- ---- each state under its own name

abbrev pub Filed : States → Type 0
Filed m = (name : StateName) (s : State) → maps.get m name ≡ Some s → s.name ≡ name

pub filed-put : (m : States) (u : State) → Filed m → Filed (maps.insert m u.name u)
filed-put m u filed name s at = elim (get-set_at_cases names_total names_exact m u.name (Some u) name s at) [
  | inl own ↦ ap (λ (v : State). v.name) (sym (inner u s own.1)) ∙ sym own.0
  | inr other ↦ filed name s other.1
]
