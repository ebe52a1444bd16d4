-- Whichever rules are the kernel's, levels never fall along packets, and what packets make of states are states.
use Rattle.std.specs.Prelude.{◌≡◌, ◌≤◌, ℕ, Bool, true, false, max, refl, ◌&&◌, is_none}
use Rattle.std.proofs.Common.{arith, cond, subst, sym, ap, ◌∙◌}
use Rattle.pfl_base.specs.declared.direction.Dir.{Dir}
use Rattle.pfl_base.specs.declared.packet.Packet.{Packet}
use Rattle.pfl_base.specs.Packets.{syn, fin, rst, IsPacket}
use Rattle.pfl_track.specs.declared.peer.Peer.{Peer}
use Rattle.pfl_track.specs.declared.branch.Branch.{Branch}
use Rattle.pfl_track.specs.declared.branch.Branch.TheVariants.{Window, Loose}
use Rattle.pfl_base.specs.declared.kernel.Kernel.{Kernel}
use Rattle.pfl_track.specs.declared.state.State.{State}
use Rattle.pfl_track.specs.declared.tracked.Tracked.TheVariants.{Moved}
use Rattle.pfl_track.specs.Laws.{RisesInRange}
use Rattle.pfl_track.specs.RuleLaws.{LowersNoLevelBy, StaysStateBy}
use Rattle.pfl_track.specs.Rules.{answers_offer, begun_at, eased, first_allowance, is_unheard, met, plain, receiver_at, receiver_by, receiver_level_by}
use Rattle.pfl_track.specs.Rules.{segment_of, sender_by, sender_level_by, takes_offer, touched, tracked_by, without_scale}
use Rattle.pfl_track.specs.Windows.{begun}
use Rattle.pfl_track.specs.States.{IsState}
use Rattle.pfl_track.specs.Tracking.{from_src, moved, receiver, sender, used}
use Rattle.pfl_track.proofs.Keeping.{IsShift, begun-shift, receiver-shift, sender-shift}
use Rattle.pfl_track.proofs.Rising.{begun-rises, moved-rises, other-rises, receiver_level-most, receiver_level-rises}
use Rattle.pfl_track.proofs.Rising.{sender_level-most, sender_level-rises, side-level}
use Rattle.pfl_track.proofs.RuleMoving.{moved-by, other-by, segment-in}

-- a level that has risen, and is in its range
record Lifted (from to : ℕ) : Type 0 where
  least : from ≤ to
  most : to ≤ 10

loose-flags : (r f : Bool) (level : ℕ) → level ≤ 10 → Lifted level (cond r 10 (cond f (max level 7) level))
loose-flags true f level h = record { least = h; most = omega arith }
loose-flags false true level h = record { least = omega arith; most = omega arith }
loose-flags false false level h = record { least = omega arith; most = h }

loose-reset : (r : Bool) (level : ℕ) → level ≤ 10 → Lifted level (cond r 10 level)
loose-reset true level h = record { least = h; most = omega arith }
loose-reset false level h = record { least = omega arith; most = h }

sender-lifted : (b : Branch) (p : Packet) (level : ℕ) → level ≤ 10 → Lifted level (sender_level_by b p level)
sender-lifted Window p level h = record { least = sender_level-rises p level h; most = sender_level-most p level h }
sender-lifted Loose p level h = loose-flags (rst p) (fin p) level h

receiver-lifted : (b : Branch) (p : Packet) (level : ℕ) → level ≤ 10 → Lifted level (receiver_level_by b p level)
receiver-lifted Window p level h = record { least = receiver_level-rises p level h; most = receiver_level-most p level h }
receiver-lifted Loose p level h = loose-reset (rst p) level h

met-lifted : (b scaling : Bool) (s d : Peer) (p : Packet) → s.level ≤ 10 → Lifted s.level (cond b (met scaling s d p) s).level
met-lifted true scaling s d p h = record { least = omega arith; most = omega arith }
met-lifted false scaling s d p h = record { least = omega arith; most = h }

-- taking an offer changes nothing but how far the sender may go
allowed-level : (b : Bool) (e : Peer) (hi : ℕ) → (cond b (record e { hi = hi }) e).level ≡ e.level
allowed-level true e hi = refl
allowed-level false e hi = refl

begun-lifted : (scaling : Bool) (s d : Peer) (p : Packet) → s.level ≤ 10 → Lifted s.level (begun_at scaling s d p).level
begun-lifted scaling s d p h =
    let begins = begun-rises s d p h in
    subst (Lifted s.level) (sym (allowed-level scaling (begun s d p) (first_allowance true d p))) (record { least = begins.0; most = begins.1 })

segment-lifted : (kernel : Kernel) (s d : Peer) (p : Packet) → s.level ≤ 10 → Lifted s.level (segment_of kernel s d p).sender.level
segment-lifted kernel s d p h = by kernel.window
  where
    scaling : Bool
    scaling = takes_offer kernel s d p

    to : Peer
    to = receiver_at kernel s d p

    by : (b : Bool) → Lifted s.level (cond b (eased scaling s to p) (plain scaling s to p)).sender.level
    by true = met-lifted (is_unheard s) scaling s to p h
    by false = begun-lifted scaling s to p h

-- the other end of the packet as it is judged
segment-receiver : (kernel : Kernel) (s d : Peer) (p : Packet) → (segment_of kernel s d p).receiver ≡ receiver_at kernel s d p
segment-receiver kernel s d p = by kernel.window
  where
    to : Peer
    to = receiver_at kernel s d p

    by : (b : Bool) → (cond b (eased (takes_offer kernel s d p) s to p) (plain (takes_offer kernel s d p) s to p)).receiver ≡ to
    by true = refl
    by false = refl

-- an offer that comes to nothing lowers and lifts no level
segment-level : (kernel : Kernel) (s d : Peer) (p : Packet) → (segment_of kernel s d p).receiver.level ≡ d.level
segment-level kernel s d p = ap (λ (e : Peer). e.level) (segment-receiver kernel s d p) ∙ by (answers_offer kernel s d p && is_none p.scale)
  where
    by : (b : Bool) → (cond b (without_scale d) d).level ≡ d.level
    by true = refl
    by false = refl

touched-rises : (s : State) (dir : Dir) (from to : Peer) → (sender s dir).level ≤ from.level → (receiver s dir).level ≤ to.level
    → from.level ≤ 10 → to.level ≤ 10 → RisesInRange s (touched s dir from to)
touched-rises s dir from to h k u v = by (from_src s dir) h k
  where
    by : (b : Bool) → (cond b s.src s.dst).level ≤ from.level → (cond b s.dst s.src).level ≤ to.level
        → RisesInRange s (cond b (record s { src = from; dst = to }) (record s { src = to; dst = from }))
    by true h k = record { src = h; dst = k; src_most = u; dst_most = v }
    by false h k = record { src = k; dst = h; src_most = v; dst_most = u }

pub lowers-none : LowersNoLevelBy
lowers-none kernel s p dir now t is e =
    let levels = side-level (from_src s dir) s is in
    let began = segment-lifted kernel (sender s dir) (receiver s dir) p levels.0 in
    let sent : (b : Branch) → Lifted (sender s dir).level (sender_by b (segment-in kernel s p dir) p).level =
    λ b. let up = sender-lifted b p (segment-in kernel s p dir).sender.level began.most in
    record { least = trans-le (sender s dir).level _ _ began.least up.least; most = up.most } in
    let heard : (b : Branch) → Lifted (receiver s dir).level (receiver_by b (segment-in kernel s p dir) p).level =
    λ b. subst (λ (n : ℕ). Lifted (receiver s dir).level (receiver_level_by b p n)) (sym (segment-level kernel (sender s dir) (receiver s dir) p))
    (receiver-lifted b p (receiver s dir).level levels.1) in
    moved-by (RisesInRange s) kernel s p dir now t
    (moved-rises s dir _ _ now (sent Window).least (heard Window).least (sent Window).most (heard Window).most)
    (λ _. touched-rises s dir _ _ (sent Loose).least (heard Loose).least (sent Loose).most (heard Loose).most)
    (other-by (RisesInRange s) kernel s p dir now
    (record { src = omega arith; dst = omega arith; src_most = is.src.level; dst_most = is.dst.level }) (other-rises s dir now is)) e
  where
    trans-le : (a b c : ℕ) → a ≤ b → b ≤ c → a ≤ c
    trans-le a b c h k = omega arith

-- the scale of an end that was never heard is in its range, too
segment-shift : (kernel : Kernel) (s d : Peer) (p : Packet) → IsPacket p → IsShift s.scale → IsShift (segment_of kernel s d p).sender.scale
segment-shift kernel s d p packet h = by kernel.window
  where
    scaling : Bool
    scaling = takes_offer kernel s d p

    to : Peer
    to = receiver_at kernel s d p

    met-shift : (b : Bool) → IsShift (cond b p.scale s.scale)
    met-shift true = packet.scale
    met-shift false = h

    heard-shift : (b : Bool) → IsShift (cond b (met scaling s to p) s).scale
    heard-shift true = met-shift (syn p)
    heard-shift false = h

    begun-shift-at : (b : Bool) → IsShift (begun_at b s to p).scale
    begun-shift-at true = begun-shift s to p packet h
    begun-shift-at false = begun-shift s to p packet h

    by : (b : Bool) → IsShift (cond b (eased scaling s to p) (plain scaling s to p)).sender.scale
    by true = heard-shift (is_unheard s)
    by false = begun-shift-at scaling

-- and that of the other end, which may have lost its own
other-shift : (kernel : Kernel) (s d : Peer) (p : Packet) → IsShift d.scale → IsShift (segment_of kernel s d p).receiver.scale
other-shift kernel s d p h =
    subst (λ (e : Peer). IsShift e.scale) (sym (segment-receiver kernel s d p)) (by (answers_offer kernel s d p && is_none p.scale))
  where
    by : (b : Bool) → IsShift (cond b (without_scale d) d).scale
    by true = tt
    by false = h

-- both ends have scales in their range, and the rest is that of s
record Shifts (s t : State) : Type 0 where
  src : IsShift t.src.scale
  dst : IsShift t.dst.scale
  rest : t ≡ record s { src = t.src; dst = t.dst; class = t.class; last = t.last }

moved-shifts : (s : State) (dir : Dir) (from to : Peer) (now : ℕ) → IsShift from.scale → IsShift to.scale → Shifts s (moved s dir from to now)
moved-shifts s dir from to now h k = by (from_src s dir)
  where
    by : (b : Bool) → Shifts s (cond b (used s from to now) (used s to from now))
    by true = record { src = h; dst = k; rest = refl }
    by false = record { src = k; dst = h; rest = refl }

touched-shifts : (s : State) (dir : Dir) (from to : Peer) → IsShift from.scale → IsShift to.scale → Shifts s (touched s dir from to)
touched-shifts s dir from to h k = by (from_src s dir)
  where
    by : (b : Bool) → Shifts s (cond b (record s { src = from; dst = to }) (record s { src = to; dst = from }))
    by true = record { src = h; dst = k; rest = refl }
    by false = record { src = k; dst = h; rest = refl }

shifts-by : (kernel : Kernel) (s : State) (p : Packet) (dir : Dir) (now : ℕ) (t : State) → IsState s → IsPacket p
    → tracked_by kernel s p dir now ≡ Moved t → Shifts s t
shifts-by kernel s p dir now t is packet e =
    let from = sender-shift s dir is in
    let to = receiver-shift s dir is in
    let begun = segment-shift kernel (sender s dir) (receiver s dir) p packet from in
    let other = other-shift kernel (sender s dir) (receiver s dir) p to in
    moved-by (Shifts s) kernel s p dir now t (moved-shifts s dir _ _ now begun other) (λ _. touched-shifts s dir _ _ begun other)
    (other-by (Shifts s) kernel s p dir now (record { src = is.src.scale; dst = is.dst.scale; rest = refl }) (moved-shifts s dir _ _ now from to)) e

pub stays-state : StaysStateBy
stays-state kernel s p dir now t is packet e =
    let rises = lowers-none kernel s p dir now t is e in
    let shifts = shifts-by kernel s p dir now t is packet e in
    subst IsState (sym shifts.rest) (record {
      src = record { level = rises.src_most; scale = shifts.src };
      dst = record { level = rises.dst_most; scale = shifts.dst };
      proto = is.proto;
      one_proto = is.one_proto;
      wire_family = is.wire_family;
      stack_family = is.stack_family;
      one_family = is.one_family;
    })
