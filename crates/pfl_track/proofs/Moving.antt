-- Tracking changes the ends of a state, its class and its last use, and nothing else.
use Rattle.std.specs.Prelude.{◌≡◌, ℕ, Bool, true, false, not, ◌&&◌, refl}
use Rattle.std.proofs.Common.{cond, subst}
use Rattle.pfl_base.specs.declared.direction.Dir.{Dir}
use Rattle.pfl_base.specs.declared.packet.Packet.{Packet}
use Rattle.pfl_base.specs.Packets.{is_tcp, is_request}
use Rattle.pfl_track.specs.declared.peer.Peer.{Peer}
use Rattle.pfl_track.specs.declared.state.State.{State}
use Rattle.pfl_track.specs.declared.tracked.Tracked.TheVariants.{Moved, OutOfWindow, Reused}
use Rattle.pfl_track.specs.Windows.{begun, is_inside, sender_after, receiver_after}
use Rattle.pfl_track.specs.Tracking.{sender, receiver, moved, used, from_src, tracked, tracked_tcp, tracked_other, is_closed}

-- the state is s with its own ends, used now
abbrev IsUsed : State → ℕ → State → Type 0
IsUsed s now t = t ≡ used s t.src t.dst now

moved-used : (s : State) (dir : Dir) (from to : Peer) (now : ℕ) → IsUsed s now (moved s dir from to now)
moved-used s dir from to now = by (from_src s dir)
  where
    by : (b : Bool) → IsUsed s now (cond b (used s from to now) (used s to from now))
    by true = refl
    by false = refl

tcp-used : (s : State) (p : Packet) (dir : Dir) (now : ℕ) (t : State) → tracked_tcp s p dir now ≡ Moved t → IsUsed s now t
tcp-used s p dir now t e = by_tests (is_request p && is_closed s) (is_inside (begun (sender s dir) (receiver s dir) p) (receiver s dir) p) e
  where
    m : State
    m = moved s dir (sender_after (begun (sender s dir) (receiver s dir) p) p) (receiver_after (begun (sender s dir) (receiver s dir) p) (receiver s dir) p) now

    by_tests : (r w : Bool) → cond r Reused (cond (not w) OutOfWindow (Moved m)) ≡ Moved t → IsUsed s now t
    by_tests true w e = cc
    by_tests false false e = cc
    by_tests false true e = let same : m ≡ t = cc in subst (IsUsed s now) same (moved-used s dir _ _ now)

by_proto : (b : Bool) (s : State) (p : Packet) (dir : Dir) (now : ℕ) (t : State)
    → cond b (tracked_tcp s p dir now) (Moved (tracked_other s dir now)) ≡ Moved t → IsUsed s now t
by_proto true s p dir now t e = tcp-used s p dir now t e
by_proto false s p dir now t e = let same : tracked_other s dir now ≡ t = cc in subst (IsUsed s now) same (moved-used s dir _ _ now)

pub tracked-used : (s : State) (p : Packet) (dir : Dir) (now : ℕ) (t : State) → tracked s p dir now ≡ Moved t → t ≡ used s t.src t.dst now
tracked-used s p dir now t e = by_proto (is_tcp p.proto) s p dir now t e
