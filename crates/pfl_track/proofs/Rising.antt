-- Levels never fall along packets.
use Rattle.std.specs.Prelude.{◌≡◌, ◌≤◌, ℕ, Bool, true, false, max, ◌==◌, refl, not, ◌&&◌}
use Rattle.std.proofs.Common.{arith, cond, subst}
use Rattle.std.proofs.lemmas.Bool.Decides.{nat_tests}
use Rattle.pfl_base.specs.declared.packet.Packet.{Packet}
use Rattle.pfl_base.specs.declared.direction.Dir.{Dir}
use Rattle.pfl_base.specs.Packets.{syn, fin, rst, ack, is_tcp, is_request}
use Rattle.pfl_track.specs.declared.peer.Peer.{Peer}
use Rattle.pfl_track.specs.declared.state.State.{State}
use Rattle.pfl_track.specs.declared.tracked.Tracked.TheVariants.{Moved, OutOfWindow, Reused}
use Rattle.pfl_track.specs.Levels.{acknowledged, sender_level, receiver_level}
use Rattle.pfl_track.specs.Windows.{begun, is_inside, sender_after, receiver_after}
use Rattle.pfl_track.specs.Tracking.{sender, receiver, moved, used, from_src, tracked, tracked_tcp, tracked_other, is_closed}
use Rattle.pfl_track.specs.States.{IsState}
use Rattle.pfl_track.specs.Laws.{RisesInRange}

-- by the flags
by_flags : (r f s : Bool) (level : ℕ) → level ≤ 10 → level ≤ cond r 10 (cond f (max (cond s (max level 2) level) 7) (cond s (max level 2) level))
by_flags true f s level h = h
by_flags false true true level h = omega arith
by_flags false true false level h = omega arith
by_flags false false true level h = omega arith
by_flags false false false level h = omega arith

pub sender_level-rises : (p : Packet) (level : ℕ) → level ≤ 10 → level ≤ sender_level p level
sender_level-rises p level h = by_flags (rst p) (fin p) (syn p) level h

pub acknowledged-rises : (level : ℕ) → level ≤ acknowledged level
acknowledged-rises level = grind (arith, nat_tests)

by_answer : (r a : Bool) (level up : ℕ) → level ≤ 10 → level ≤ up → level ≤ cond r 10 (cond a up level)
by_answer true a level up h k = h
by_answer false true level up h k = k
by_answer false false level up h k = omega arith

pub receiver_level-rises : (p : Packet) (level : ℕ) → level ≤ 10 → level ≤ receiver_level p level
receiver_level-rises p level h = by_answer (rst p) (ack p) level (acknowledged level) h (acknowledged-rises level)

small_flags : (r f s : Bool) (level : ℕ) → level ≤ 10 → cond r 10 (cond f (max (cond s (max level 2) level) 7) (cond s (max level 2) level)) ≤ 10
small_flags true f s level h = omega arith
small_flags false true true level h = omega arith
small_flags false true false level h = omega arith
small_flags false false true level h = omega arith
small_flags false false false level h = h

pub sender_level-most : (p : Packet) (level : ℕ) → level ≤ 10 → sender_level p level ≤ 10
sender_level-most p level h = small_flags (rst p) (fin p) (syn p) level h

acknowledged-most : (level : ℕ) → level ≤ 10 → acknowledged level ≤ 10
acknowledged-most level h = grind (arith, nat_tests)

small_answer : (r a : Bool) (level up : ℕ) → level ≤ 10 → up ≤ 10 → cond r 10 (cond a up level) ≤ 10
small_answer true a level up h k = omega arith
small_answer false true level up h k = k
small_answer false false level up h k = h

pub receiver_level-most : (p : Packet) (level : ℕ) → level ≤ 10 → receiver_level p level ≤ 10
receiver_level-most p level h = small_answer (rst p) (ack p) level (acknowledged level) h (acknowledged-most level h)

by_side : (b : Bool) (s : State) (from to : Peer) (now : ℕ) → (cond b s.src s.dst).level ≤ from.level
    → (cond b s.dst s.src).level ≤ to.level → from.level ≤ 10 → to.level ≤ 10 → RisesInRange s (cond b (used s from to now) (used s to from now))
by_side true s from to now h k u v = record { src = h; dst = k; src_most = u; dst_most = v }
by_side false s from to now h k u v = record { src = k; dst = h; src_most = v; dst_most = u }

pub moved-rises : (s : State) (dir : Dir) (from to : Peer) (now : ℕ) → (sender s dir).level ≤ from.level → (receiver s dir).level ≤ to.level
    → from.level ≤ 10 → to.level ≤ 10 → RisesInRange s (moved s dir from to now)
moved-rises s dir from to now h k u v = by_side (from_src s dir) s from to now h k u v

pub side-level : (b : Bool) (s : State) → IsState s → ((cond b s.src s.dst).level ≤ 10) × ((cond b s.dst s.src).level ≤ 10)
side-level true s is = (is.src.level, is.dst.level)
side-level false s is = (is.dst.level, is.src.level)

begun_level : (b : Bool) (level : ℕ) (s : Peer) (x : Peer) → (b ≡ true → s.level ≡ 0) → s.level ≤ 10 → x.level ≡ 2
    → (s.level ≤ (cond b x s).level) × ((cond b x s).level ≤ 10)
begun_level true level s x z h e = let zero_is = z refl in (omega arith, omega arith)
begun_level false level s x z h e = (omega arith, h)

pub begun-rises : (s d : Peer) (p : Packet) → s.level ≤ 10 → (s.level ≤ (begun s d p).level) × ((begun s d p).level ≤ 10)
begun-rises s d p h = begun_level (s.level == 0) s.level s _ (λ e. grind (arith, nat_tests)) h refl

tcp-rises : (s : State) (p : Packet) (dir : Dir) (now : ℕ) (t : State) → IsState s → tracked_tcp s p dir now ≡ Moved t → RisesInRange s t
tcp-rises s p dir now t is e = by_tests (is_request p && is_closed s) (is_inside (begun (sender s dir) (receiver s dir) p) (receiver s dir) p) e
  where
    m : State
    m = moved s dir (sender_after (begun (sender s dir) (receiver s dir) p) p) (receiver_after (begun (sender s dir) (receiver s dir) p) (receiver s dir) p) now

    levels : ((sender s dir).level ≤ 10) × ((receiver s dir).level ≤ 10)
    levels = side-level (from_src s dir) s is

    began : ((sender s dir).level ≤ (begun (sender s dir) (receiver s dir) p).level) × ((begun (sender s dir) (receiver s dir) p).level ≤ 10)
    began = begun-rises (sender s dir) (receiver s dir) p levels.0

    rises : RisesInRange s m
    rises =
        let up = sender_level-rises p (begun (sender s dir) (receiver s dir) p).level began.1 in
        let start = began.0 in
        moved-rises s dir _ _ now (omega arith) (receiver_level-rises p (receiver s dir).level levels.1)
        (sender_level-most p (begun (sender s dir) (receiver s dir) p).level began.1) (receiver_level-most p (receiver s dir).level levels.1)

    by_tests : (r w : Bool) → cond r Reused (cond (not w) OutOfWindow (Moved m)) ≡ Moved t → RisesInRange s t
    by_tests true w e = cc
    by_tests false false e = cc
    by_tests false true e = let same : m ≡ t = cc in subst (RisesInRange s) same rises

pub other-rises : (s : State) (dir : Dir) (now : ℕ) → IsState s → RisesInRange s (tracked_other s dir now)
other-rises s dir now is =
    let levels = side-level (from_src s dir) s is in
    moved-rises s dir _ _ now (omega arith) (answered (receiver s dir).level) (heard (sender s dir).level levels.0)
    (answered-most (receiver s dir).level levels.1)
  where
    answered : (level : ℕ) → level ≤ cond (level == 1) 2 level
    answered level = grind (arith, nat_tests)

    answered-most : (level : ℕ) → level ≤ 10 → cond (level == 1) 2 level ≤ 10
    answered-most level h = grind (arith, nat_tests)

    heard : (level : ℕ) → level ≤ 10 → max level 1 ≤ 10
    heard level h = omega arith

by_proto : (b : Bool) (s : State) (p : Packet) (dir : Dir) (now : ℕ) (t : State) → IsState s
    → cond b (tracked_tcp s p dir now) (Moved (tracked_other s dir now)) ≡ Moved t → RisesInRange s t
by_proto true s p dir now t is e = tcp-rises s p dir now t is e
by_proto false s p dir now t is e = let same : tracked_other s dir now ≡ t = cc in subst (RisesInRange s) same (other-rises s dir now is)

-- a packet lowers no level
pub tracked-rises : (s : State) (p : Packet) (dir : Dir) (now : ℕ) (t : State) → IsState s → tracked s p dir now ≡ Moved t → RisesInRange s t
tracked-rises s p dir now t is e = by_proto (is_tcp p.proto) s p dir now t is e
