-- How packets move states by the kernel's rules: by which branch, and that none of these rules is the profile.
use Rattle.std.specs.Prelude.{◌≡◌, ◌⊎◌, ℕ, Bool, true, false, not, max, ◌&&◌, ◌||◌, Option, Some, None, refl}
use Rattle.std.specs.Option.{option_map_or}
use Rattle.std.proofs.Common.{cond, subst, ap, ◌∙◌, inl, inr, sym}
use Rattle.pfl_base.specs.declared.direction.Dir.{Dir}
use Rattle.pfl_base.specs.declared.packet.Packet.{Packet}
use Rattle.pfl_base.specs.Packets.{is_tcp, is_request}
use Rattle.pfl_base.specs.Sequence.{add32, seq_geq}
use Rattle.pfl_track.specs.declared.peer.Peer.{Peer}
use Rattle.pfl_track.specs.declared.branch.Branch.{Branch}
use Rattle.pfl_track.specs.declared.branch.Branch.TheVariants.{Window, Loose}
use Rattle.pfl_base.specs.declared.kernel.Kernel.{Kernel}
use Rattle.pfl_track.specs.declared.segment.Segment.{Segment}
use Rattle.pfl_track.specs.declared.state.State.{State}
use Rattle.pfl_track.specs.declared.tracked.Tracked.{Tracked}
use Rattle.pfl_track.specs.declared.tracked.Tracked.TheVariants.{Moved, OutOfWindow, Reused}
use Rattle.pfl_track.specs.Levels.{receiver_level}
use Rattle.pfl_track.specs.RuleLaws.{AllRenewBy, EndsMoveBy, LooseAdds, NoneIsProfile, ResetRefuses}
use Rattle.pfl_track.specs.Rules.{asks_number, branch, is_beside, is_in_window, is_inside_by, is_lenient, is_near, is_nearby}
use Rattle.pfl_track.specs.Rules.{has_no_levels, passed, plain, receiver_by, tracked_other_by}
use Rattle.pfl_track.specs.Rules.{segment_of, sender_by, touched, tracked_by, tracked_tcp_by, tracks_by_profile, widened}
use Rattle.pfl_track.specs.Tracking.{from_src, is_closed, moved, receiver, sender, tracked, tracked_other, tracked_tcp, used}
use Rattle.pfl_track.specs.Windows.{acknowledges, at_scale, begun, is_inside, is_scaled, left_edge, max_ack_window}
use Rattle.pfl_track.specs.Windows.{offered, receiver_after, right_edge, sender_after}
use Rattle.pfl_track.proofs.Names.{Same, Stays}

-- the packet of a state as it is judged
abbrev pub segment-in : Kernel → State → Packet → Dir → Segment
segment-in kernel s p dir = segment_of kernel (sender s dir) (receiver s dir) p

-- what comes of the state where the packet is inside the window
abbrev pub renewed : Kernel → State → Packet → Dir → ℕ → State
renewed kernel s p dir now =
    let g = segment-in kernel s p dir in
    moved s dir (sender_by Window g p) (receiver_by Window g p) now

-- what comes of it where it passes loosely
abbrev pub loosened : Kernel → State → Packet → Dir → State
loosened kernel s p dir =
    let g = segment-in kernel s p dir in
    touched s dir (sender_by Loose g p) (receiver_by Loose g p)

loose-on : (inside loose lenient nearby : Bool)
    → cond inside (Some Window) (cond (loose && lenient && nearby) (Some Loose) None) ≡ Some Loose → loose ≡ true
loose-on true loose lenient nearby e = cc
loose-on false true lenient nearby e = refl
loose-on false false lenient nearby e = cc

-- what holds of the state that is only used, and by the profile, holds after a packet of another protocol
pub other-by : (P : State → Type 0) (kernel : Kernel) (s : State) (p : Packet) (dir : Dir) (now : ℕ) → P (used s s.src s.dst now)
    → P (tracked_other s dir now) → P (tracked_other_by kernel s p dir now)
other-by P kernel s p dir now in_place moves = by (has_no_levels kernel p.proto)
  where
    by : (b : Bool) → P (cond b (used s s.src s.dst now) (tracked_other s dir now))
    by true = in_place
    by false = moves

-- what holds of the state after each branch holds of the moved state
module _ (P : State → Type 0) (kernel : Kernel) (s : State) (p : Packet) (dir : Dir) (now : ℕ) (t : State) (in_window : P (renewed kernel s p dir now))
    (in_loose : kernel.loose ≡ true → P (loosened kernel s p dir)) (in_other : P (tracked_other_by kernel s p dir now)) where
  by-way : (b : Option Branch) → (b ≡ Some Loose → kernel.loose ≡ true) → passed s (segment-in kernel s p dir) p dir now b ≡ Moved t → P t
  by-way None on e = cc
  by-way (Some Window) on e = let same : renewed kernel s p dir now ≡ t = cc in subst P same in_window
  by-way (Some Loose) on e = let same : loosened kernel s p dir ≡ t = cc in subst P same (in_loose (on refl))

  by-reuse : (r : Bool) (b : Option Branch) → (b ≡ Some Loose → kernel.loose ≡ true)
      → cond r Reused (passed s (segment-in kernel s p dir) p dir now b) ≡ Moved t → P t
  by-reuse true b on e = cc
  by-reuse false b on e = by-way b on e

  by-tcp : tracked_tcp_by kernel s p dir now ≡ Moved t → P t
  by-tcp e =
      let g = segment-in kernel s p dir in
      by-reuse (is_request p && is_closed s) (branch kernel g p)
      (loose-on (is_inside_by kernel g p) kernel.loose (is_lenient g) (is_nearby g)) e

  by-proto : (b : Bool) → cond b (tracked_tcp_by kernel s p dir now) (Moved (tracked_other_by kernel s p dir now)) ≡ Moved t → P t
  by-proto true e = by-tcp e
  by-proto false e = let same : tracked_other_by kernel s p dir now ≡ t = cc in subst P same in_other

  pub moved-by : tracked_by kernel s p dir now ≡ Moved t → P t
  moved-by e = by-proto (is_tcp p.proto) e

-- the state is s with its own ends, used now
abbrev IsUsed : State → ℕ → State → Type 0
IsUsed s now t = t ≡ used s t.src t.dst now

moved-used : (s : State) (dir : Dir) (from to : Peer) (now : ℕ) → IsUsed s now (moved s dir from to now)
moved-used s dir from to now = by (from_src s dir)
  where
    by : (b : Bool) → IsUsed s now (cond b (used s from to now) (used s to from now))
    by true = refl
    by false = refl

other-used : (kernel : Kernel) (s : State) (p : Packet) (dir : Dir) (now : ℕ) → IsUsed s now (tracked_other_by kernel s p dir now)
other-used kernel s p dir now = other-by (IsUsed s now) kernel s p dir now refl (moved-used s dir _ _ now)

-- the state is s with its own ends
abbrev IsTouched : State → State → Type 0
IsTouched s t = t ≡ record s { src = t.src; dst = t.dst }

touched-is : (s : State) (dir : Dir) (from to : Peer) → IsTouched s (touched s dir from to)
touched-is s dir from to = by (from_src s dir)
  where
    by : (b : Bool) → IsTouched s (cond b (record s { src = from; dst = to }) (record s { src = to; dst = from }))
    by true = refl
    by false = refl

pub ends-move : EndsMoveBy
ends-move kernel s p dir now t e =
    moved-by (λ (u : State). IsUsed s now u ⊎ IsTouched s u) kernel s p dir now t (inl (moved-used s dir _ _ now)) (λ _. inr (touched-is s dir _ _))
    (inl (other-used kernel s p dir now)) e

pub all-renew : AllRenewBy
all-renew kernel s p dir now t off e =
    moved-by (IsUsed s now) kernel s p dir now t (moved-used s dir _ _ now) (λ on. let no : true ≡ false = cc in cc) (other-used kernel s p dir now) e

-- packets of TCP are tracked by the profile
abbrev pub untracked : Kernel → Kernel
untracked kernel = record kernel { window = false; loose = false; reset = false; scale = false }

-- with none of the kernel's rules the tests are those of the profile
inside-by : (right left counts : Bool) (near : ℕ → Bool) (number : ℕ)
    → ((right && left && option_map_or near (cond counts (Some number) None) true) && true) ≡ (right && left && (not counts || near number))
inside-by false left counts near number = refl
inside-by true false counts near number = refl
inside-by true true false near number = refl
inside-by true true true near number = by (near number)
  where
    by : (b : Bool) → (b && true) ≡ b
    by true = refl
    by false = refl

profile-inside : (kernel : Kernel) (s d : Peer) (p : Packet)
    → is_inside_by (untracked kernel) (plain false s d p) p ≡ is_inside (begun s d p) d p
profile-inside kernel s d p =
    let from = begun s d p in
    inside-by (right_edge from p) (left_edge from (at_scale (is_scaled from d p) d d.window) p) (acknowledges d p)
    (is_near (at_scale (is_scaled from d p) from max_ack_window) d.lo) p.ack

allowed-by : (counts : Bool) (number window hi : ℕ) → option_map_or (widened hi window) (cond counts (Some number) None) hi
    ≡ cond (counts && seq_geq (add32 number window) hi) (add32 number (max window 1)) hi
allowed-by true number window hi = refl
allowed-by false number window hi = refl

profile-receiver : (s d : Peer) (p : Packet) → receiver_by Window (plain false s d p) p ≡ receiver_after (begun s d p) d p
profile-receiver s d p = ap with_hi (allowed-by (acknowledges d p) p.ack (offered (begun s d p) d p) d.hi)
  where
    with_hi : ℕ → Peer
    with_hi hi = record d { level = receiver_level p d.level; hi = hi }

profile-tcp : (kernel : Kernel) (s : State) (p : Packet) (dir : Dir) (now : ℕ)
    → tracked_tcp_by (untracked kernel) s p dir now ≡ tracked_tcp s p dir now
profile-tcp kernel s p dir now = ap after (by-inside (is_inside_by (untracked kernel) g p) ∙ same)
  where
    from : Peer
    from = sender s dir

    to : Peer
    to = receiver s dir

    g : Segment
    g = plain false from to p

    after : Tracked → Tracked
    after r = cond (is_request p && is_closed s) Reused r

    outcome : Bool → Peer → Tracked
    outcome inside receiver = cond (not inside) OutOfWindow (Moved (moved s dir (sender_after (begun from to p) p) receiver now))

    by-inside : (b : Bool) → passed s g p dir now (cond b (Some Window) None) ≡ outcome b (receiver_by Window g p)
    by-inside true = refl
    by-inside false = refl

    same : outcome (is_inside_by (untracked kernel) g p) (receiver_by Window g p)
        ≡ outcome (is_inside (begun from to p) to p) (receiver_after (begun from to p) to p)
    same = ap (λ (b : Bool). outcome b (receiver_by Window g p)) (profile-inside kernel from to p)
        ∙ ap (λ (e : Peer). outcome (is_inside (begun from to p) to p) e) (profile-receiver from to p)

-- where none of these rules is the kernel's, packets are tracked by the profile
none-is : (k : Kernel) (window loose reset scale : Bool) → not (window || loose || reset || scale) ≡ true
    → record k { window = window; loose = loose; reset = reset; scale = scale } ≡ untracked k
none-is k false false false false e = refl
none-is k true loose reset scale e = cc
none-is k false true reset scale e = cc
none-is k false false true scale e = cc
none-is k false false false true e = cc

pub is-profile : (kernel : Kernel) → tracks_by_profile kernel ≡ true → kernel ≡ untracked kernel
is-profile kernel e = none-is kernel kernel.window kernel.loose kernel.reset kernel.scale e

pub profile-tracked : NoneIsProfile
profile-tracked kernel s p dir now e levels =
    ap (λ (k : Kernel). tracked_by k s p dir now) (is-profile kernel e)
    ∙ ap (λ (r : Tracked). cond (is_tcp p.proto) r (Moved (tracked_other_by kernel s p dir now))) (profile-tcp kernel s p dir now)
    ∙ ap (λ (b : Bool). cond (is_tcp p.proto) (tracked_tcp s p dir now) (Moved (cond b (used s s.src s.dst now) (tracked_other s dir now)))) levels

-- packets of other protocols than TCP are tracked by it, whichever of these rules are the kernel's, but for those of ICMP by `icmp`
pub profile-other : (kernel : Kernel) (s : State) (p : Packet) (dir : Dir) (now : ℕ) → is_tcp p.proto ≡ false
    → has_no_levels kernel p.proto ≡ false → tracked_by kernel s p dir now ≡ tracked s p dir now
profile-other kernel s p dir now other levels = rw (other, levels)

-- what passes by no rule that is taken away, passes so still
pub loose-adds : LooseAdds
loose-adds kernel s p dir now t e = by-proto (is_tcp p.proto) e
  where
    g : Segment
    g = segment-in kernel s p dir

    by-way : (inside more : Bool) → passed s g p dir now (cond inside (Some Window) None) ≡ Moved t
        → passed s g p dir now (cond inside (Some Window) (cond more (Some Loose) None)) ≡ Moved t
    by-way true more e = e
    by-way false more e = cc

    by-reuse : (r : Bool) → cond r Reused (passed s g p dir now (branch (record kernel { loose = false }) g p)) ≡ Moved t
        → cond r Reused (passed s g p dir now (branch (record kernel { loose = true }) g p)) ≡ Moved t
    by-reuse true e = cc
    by-reuse false e = by-way (is_inside_by kernel g p) (is_lenient g && is_nearby g) e

    by-proto : (b : Bool) → cond b (tracked_tcp_by (record kernel { loose = false }) s p dir now) (Moved (tracked_other_by kernel s p dir now)) ≡ Moved t
        → cond b (tracked_tcp_by (record kernel { loose = true }) s p dir now) (Moved (tracked_other_by kernel s p dir now)) ≡ Moved t
    by-proto true e = by-reuse (is_request p && is_closed s) e
    by-proto false e = e

pub reset-refuses : ResetRefuses
reset-refuses kernel s p dir now t off e = by-proto (is_tcp p.proto) e
  where
    g : Segment
    g = segment-in kernel s p dir

    by-way : (inside asked beside more : Bool)
        → passed s g p dir now (cond (inside && (not asked || beside)) (Some Window) (cond (false && more) (Some Loose) None)) ≡ Moved t
        → passed s g p dir now (cond (inside && (not false || beside)) (Some Window) (cond (false && more) (Some Loose) None)) ≡ Moved t
    by-way true true true more e = e
    by-way true false beside more e = e
    by-way true true false more e = cc
    by-way false asked beside more e = cc

    by-rule : (loose : Bool) → loose ≡ false
        → passed s g p dir now (branch (record kernel { reset = true; loose = loose }) g p) ≡ Moved t
        → passed s g p dir now (branch (record kernel { reset = false; loose = loose }) g p) ≡ Moved t
    by-rule true off e = cc
    by-rule false off e =
        by-way (is_in_window g) (asks_number (record kernel { reset = true }) p) (is_beside p.seq g.sender.lo) (is_lenient g && is_nearby g) e

    by-reuse : (r : Bool) → cond r Reused (passed s g p dir now (branch (record kernel { reset = true }) g p)) ≡ Moved t
        → cond r Reused (passed s g p dir now (branch (record kernel { reset = false }) g p)) ≡ Moved t
    by-reuse true e = cc
    by-reuse false e = by-rule kernel.loose off e

    by-proto : (b : Bool) → cond b (tracked_tcp_by (record kernel { reset = true }) s p dir now) (Moved (tracked_other_by kernel s p dir now)) ≡ Moved t
        → cond b (tracked_tcp_by (record kernel { reset = false }) s p dir now) (Moved (tracked_other_by kernel s p dir now)) ≡ Moved t
    by-proto true e = by-reuse (is_request p && is_closed s) e
    by-proto false e = e

same-of : (s t u : State) → t ≡ u → Same s u → Same s t
same-of s t u e same = subst (Same s) (sym e) same

-- name, keys and direction are those of before
pub tracked_by-stays : (kernel : Kernel) (s : State) (p : Packet) (dir : Dir) (now : ℕ) → Stays s (tracked_by kernel s p dir now)
tracked_by-stays kernel s p dir now = by-result (tracked_by kernel s p dir now) (λ t e. elim (ends-move kernel s p dir now t e) [
  | inl renewed ↦ same-of s t _ renewed (record { name = refl; wire = refl; stack = refl; direction = refl })
  | inr touched ↦ same-of s t _ touched (record { name = refl; wire = refl; stack = refl; direction = refl })
])
  where
    by-result : (r : Tracked) → ((t : State) → r ≡ Moved t → Same s t) → Stays s r
    by-result (Moved t) same = same t refl
    by-result OutOfWindow same = tt
    by-result Reused same = tt
