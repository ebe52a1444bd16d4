-- What packets make of states are states.
use Rattle.std.specs.Prelude.{◌≡◌, ◌≤◌, ℕ, Bool, true, false, Option, None, IfSome, ◌==◌, not, ◌&&◌}
use Rattle.std.proofs.Common.{arith, cond, subst, sym}
use Rattle.pfl_base.specs.declared.direction.Dir.{Dir}
use Rattle.pfl_base.specs.declared.flow.Key.{Key}
use Rattle.pfl_base.specs.declared.packet.Packet.{Packet}
use Rattle.pfl_base.specs.declared.state_name.StateName.{StateName}
use Rattle.pfl_base.specs.Packets.{syn, is_tcp, is_request, IsPacket}
use Rattle.pfl_track.specs.declared.peer.Peer.{Peer}
use Rattle.pfl_track.specs.declared.state.State.{State}
use Rattle.pfl_track.specs.declared.tracked.Tracked.TheVariants.{Moved, OutOfWindow, Reused}
use Rattle.pfl_track.specs.Keys.{AreKeys}
use Rattle.pfl_track.specs.Peers.{IsPeer}
use Rattle.pfl_track.specs.States.{IsState}
use Rattle.pfl_track.specs.Windows.{begun, is_inside, sender_after, receiver_after}
use Rattle.pfl_track.specs.Tracking.{first_peer, start_state, sender, receiver, moved, used, from_src, tracked, tracked_tcp, tracked_other, is_closed}
use Rattle.pfl_track.proofs.Moving.{tracked-used}
use Rattle.pfl_track.proofs.Rising.{tracked-rises}

-- a scale in its range
abbrev pub IsShift : Option ℕ → Type 0
IsShift o = IfSome o (λ s. s ≤ 14)

pub shift-if : (b : Bool) (o : Option ℕ) → IsShift o → IsShift (cond b o None)
shift-if true o h = h
shift-if false o h = tt

shift-of : (b : Bool) (x y : Peer) → IsShift x.scale → IsShift y.scale → IsShift (cond b x y).scale
shift-of true x y h k = h
shift-of false x y h k = k

pub begun-shift : (s d : Peer) (p : Packet) → IsPacket p → IsShift s.scale → IsShift (begun s d p).scale
begun-shift s d p packet h = shift-of (s.level == 0) _ s (shift-if (syn p) p.scale packet.scale) h

-- both ends have scales in their range
record Shifts (t : State) : Type 0 where
  src : IsShift t.src.scale
  dst : IsShift t.dst.scale

moved-shifts : (s : State) (dir : Dir) (from to : Peer) (now : ℕ) → IsShift from.scale → IsShift to.scale → Shifts (moved s dir from to now)
moved-shifts s dir from to now h k = by (from_src s dir)
  where
    by : (b : Bool) → Shifts (cond b (used s from to now) (used s to from now))
    by true = record { src = h; dst = k }
    by false = record { src = k; dst = h }

pub sender-shift : (s : State) (dir : Dir) → IsState s → IsShift (sender s dir).scale
sender-shift s dir is = shift-of (from_src s dir) s.src s.dst is.src.scale is.dst.scale

pub receiver-shift : (s : State) (dir : Dir) → IsState s → IsShift (receiver s dir).scale
receiver-shift s dir is = shift-of (from_src s dir) s.dst s.src is.dst.scale is.src.scale

tcp-shifts : (s : State) (p : Packet) (dir : Dir) (now : ℕ) (t : State) → IsState s → IsPacket p → tracked_tcp s p dir now ≡ Moved t → Shifts t
tcp-shifts s p dir now t is packet e = by_tests (is_request p && is_closed s) (is_inside (begun (sender s dir) (receiver s dir) p) (receiver s dir) p) e
  where
    m : State
    m = moved s dir (sender_after (begun (sender s dir) (receiver s dir) p) p) (receiver_after (begun (sender s dir) (receiver s dir) p) (receiver s dir) p) now

    shifts : Shifts m
    shifts = moved-shifts s dir _ _ now (begun-shift (sender s dir) (receiver s dir) p packet (sender-shift s dir is)) (receiver-shift s dir is)

    by_tests : (r w : Bool) → cond r Reused (cond (not w) OutOfWindow (Moved m)) ≡ Moved t → Shifts t
    by_tests true w e = cc
    by_tests false false e = cc
    by_tests false true e = let same : m ≡ t = cc in subst Shifts same shifts

by_proto : (b : Bool) (s : State) (p : Packet) (dir : Dir) (now : ℕ) (t : State) → IsState s → IsPacket p
    → cond b (tracked_tcp s p dir now) (Moved (tracked_other s dir now)) ≡ Moved t → Shifts t
by_proto true s p dir now t is packet e = tcp-shifts s p dir now t is packet e
by_proto false s p dir now t is packet e = let same : tracked_other s dir now ≡ t =
    cc in subst Shifts same (moved-shifts s dir _ _ now (sender-shift s dir is) (receiver-shift s dir is))

used-is : (s : State) (src dst : Peer) (now : ℕ) → IsState s → IsPeer src → IsPeer dst → IsState (used s src dst now)
used-is s src dst now is from to = record {
  src = from;
  dst = to;
  proto = is.proto;
  one_proto = is.one_proto;
  wire_family = is.wire_family;
  stack_family = is.stack_family;
  one_family = is.one_family;
}

pub tracked-is : (s : State) (p : Packet) (dir : Dir) (now : ℕ) (t : State) → IsState s → IsPacket p → tracked s p dir now ≡ Moved t → IsState t
tracked-is s p dir now t is packet e =
    let rises = tracked-rises s p dir now t is e in
    let shifts = by_proto (is_tcp p.proto) s p dir now t is packet e in
    subst IsState (sym (tracked-used s p dir now t e))
    (used-is s t.src t.dst now is (record { level = rises.src_most; scale = shifts.src }) (record { level = rises.dst_most; scale = shifts.dst }))

first-is : (p : Packet) → IsPacket p → IsPeer (first_peer p)
first-is p packet = by (is_tcp p.proto) _ _ (record { level = omega arith; scale = packet.scale }) (record { level = omega arith; scale = tt })
  where
    by : (b : Bool) (x y : Peer) → IsPeer x → IsPeer y → IsPeer (cond b x y)
    by true x y h k = h
    by false x y h k = k

pub start-is : (name : StateName) (wire stack : Key) (dir : Dir) (p : Packet) (rule : Option ℕ) (no_sync : Bool) (now : ℕ)
    → AreKeys wire stack → IsPacket p → IsState (start_state name wire stack dir p rule no_sync now)
start-is name wire stack dir p rule no_sync now are packet = record {
  src = first-is p packet;
  dst = record { level = omega arith; scale = tt };
  proto = are.proto;
  one_proto = are.one_proto;
  wire_family = are.wire_family;
  stack_family = are.stack_family;
  one_family = are.one_family;
}
