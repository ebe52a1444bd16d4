-- What packets never do to states, whichever rules are the kernel's, and how these rules bear on one another (pf.c, as far as we know it).
use Rattle.std.specs.Prelude.{◌≡◌, ◌&&◌, if◌then◌else◌, ◌<◌, ◌≤◌, ◌+◌, ◌*◌, ◌^◌, ◌⊎◌, ℕ, Bool, true, false, is_some, Option, Some, None, List, All, fold, option_and_then}
use Rattle.pfl_base.specs.declared.direction.Dir.{Dir}
use Rattle.pfl_base.specs.declared.packet.Packet.{Packet}
use Rattle.pfl_base.specs.Packets.{is_request, is_tcp, syn, IsPacket}
use Rattle.pfl_base.specs.Sequence.{seq_geq}
use Rattle.pfl_track.specs.declared.peer.Peer.{Peer}
use Rattle.pfl_base.specs.declared.kernel.Kernel.{Kernel}
use Rattle.pfl_track.specs.declared.segment.Segment.{Segment}
use Rattle.pfl_track.specs.declared.state.State.{State}
use Rattle.pfl_track.specs.declared.tracked.Tracked.TheVariants.{Moved, Reused}
use Rattle.pfl_track.specs.Edges.{window_test}
use Rattle.pfl_track.specs.Judging.{branch_of, judged, window_test_by}
use Rattle.pfl_track.specs.Laws.{Arrival, RisesInRange, left_of}
use Rattle.pfl_track.specs.Peers.{IsPeer}
use Rattle.pfl_track.specs.Rules.{branch, eased, has_no_levels, heard, in_units, is_acknowledgement, is_empty, is_in_window, passed}
use Rattle.pfl_track.specs.Rules.{segment_of, tracked_by, tracks_by_profile}
use Rattle.pfl_track.specs.States.{IsState}
use Rattle.pfl_track.specs.Tracking.{is_closed, receiver, sender, tracked, used}

-- the state after a packet, where these rules are the kernel's
abbrev pub after_packet_by : Kernel → State → Arrival → Option State
after_packet_by kernel s a = left_of s (tracked_by kernel s a.packet a.dir a.now)

-- the state after packets that come one after the other, unless one of them ended it
abbrev pub after_all_by : Kernel → State → List Arrival → Option State
after_all_by kernel s run = fold (λ at a. option_and_then (λ t. after_packet_by kernel t a) at) (Some s) run

-- where none of the rules by which packets of TCP are tracked is the kernel's, packets move states by the profile, but for those of ICMP
-- by `icmp`
abbrev pub NoneIsProfile : Type 0
NoneIsProfile = (kernel : Kernel) (s : State) (p : Packet) (dir : Dir) (now : ℕ) → tracks_by_profile kernel ≡ true
    → has_no_levels kernel p.proto ≡ false → tracked_by kernel s p dir now ≡ tracked s p dir now

-- and all of them are tested by the profile, and by nothing else
abbrev pub NoneTestsByProfile : Type 0
NoneTestsByProfile = (kernel : Kernel) (s : State) (dir : Dir) (p : Packet) → tracks_by_profile kernel ≡ true
    → window_test_by kernel s dir p ≡ record { eased = false; test = window_test s dir p; reset = None; loose = None }

-- whichever rules are the kernel's, a packet lowers no level
abbrev pub LowersNoLevelBy : Type 0
LowersNoLevelBy = (kernel : Kernel) (s : State) (p : Packet) (dir : Dir) (now : ℕ) (t : State)
    → IsState s → tracked_by kernel s p dir now ≡ Moved t → RisesInRange s t

-- nor do packets, one after the other
abbrev pub LowersNoLevelAlongBy : Type 0
LowersNoLevelAlongBy = (kernel : Kernel) (s : State) (run : List Arrival) (t : State)
    → IsState s → All (λ a. IsPacket a.packet) run → after_all_by kernel s run ≡ Some t → RisesInRange s t

-- a packet renews the state, as by the profile, or changes its ends alone
abbrev pub EndsMoveBy : Type 0
EndsMoveBy = (kernel : Kernel) (s : State) (p : Packet) (dir : Dir) (now : ℕ) (t : State) → tracked_by kernel s p dir now ≡ Moved t
    → (t ≡ used s t.src t.dst now) ⊎ (t ≡ record s { src = t.src; dst = t.dst })

-- without the rule `loose` each packet that passes renews it
abbrev pub AllRenewBy : Type 0
AllRenewBy = (kernel : Kernel) (s : State) (p : Packet) (dir : Dir) (now : ℕ) (t : State) → kernel.loose ≡ false
    → tracked_by kernel s p dir now ≡ Moved t → t ≡ used s t.src t.dst now

-- packets change the ends, the class and the last use, and leave the rest: name, keys and all
abbrev pub OnlyMotionBy : Type 0
OnlyMotionBy = (kernel : Kernel) (s : State) (run : List Arrival) (t : State)
    → after_all_by kernel s run ≡ Some t → t ≡ record s { src = t.src; dst = t.dst; class = t.class; last = t.last }

-- what a packet makes of a state is a state
abbrev pub StaysStateBy : Type 0
StaysStateBy = (kernel : Kernel) (s : State) (p : Packet) (dir : Dir) (now : ℕ) (t : State)
    → IsState s → IsPacket p → tracked_by kernel s p dir now ≡ Moved t → IsState t

-- what packets make of it, one after the other, is a state
abbrev pub StaysStateAlongBy : Type 0
StaysStateAlongBy = (kernel : Kernel) (s : State) (run : List Arrival) (t : State)
    → IsState s → All (λ a. IsPacket a.packet) run → after_all_by kernel s run ≡ Some t → IsState t

-- a packet passes as its tests say
abbrev pub JudgementsAgree : Type 0
JudgementsAgree = (kernel : Kernel) (g : Segment) (p : Packet) → branch_of (judged kernel g p) ≡ branch kernel g p

-- what comes of a packet of TCP follows from its tests, unless it begins a new connection over a closed one
abbrev pub OutcomesFollow : Type 0
OutcomesFollow = (kernel : Kernel) (s : State) (p : Packet) (dir : Dir) (now : ℕ) → is_tcp p.proto ≡ true
    → tracked_by kernel s p dir now ≡ (if is_request p && is_closed s then Reused else
    passed s (segment_of kernel (sender s dir) (receiver s dir) p) p dir now (branch_of (window_test_by kernel s dir p)))

-- what passes without the rule `loose` passes with it, and does the same
abbrev pub LooseAdds : Type 0
LooseAdds = (kernel : Kernel) (s : State) (p : Packet) (dir : Dir) (now : ℕ) (t : State)
    → tracked_by (record kernel { loose = false }) s p dir now ≡ Moved t → tracked_by (record kernel { loose = true }) s p dir now ≡ Moved t

-- what passes with the rule `reset`, and not loosely, passes without it, and does the same
abbrev pub ResetRefuses : Type 0
ResetRefuses = (kernel : Kernel) (s : State) (p : Packet) (dir : Dir) (now : ℕ) (t : State) → kernel.loose ≡ false
    → tracked_by (record kernel { reset = true }) s p dir now ≡ Moved t → tracked_by (record kernel { reset = false }) s p dir now ≡ Moved t

-- the rule `scale` bears on a SYN to an end that has offered a scale, and on no other packet
abbrev pub ScaleAnswersOffers : Type 0
ScaleAnswersOffers = (kernel : Kernel) (s : State) (p : Packet) (dir : Dir) (now : ℕ) → (syn p && is_some (receiver s dir).scale) ≡ false
    → tracked_by (record kernel { scale = true }) s p dir now ≡ tracked_by (record kernel { scale = false }) s p dir now

-- what is kept in units of a scale is, at that scale, the window or less than one unit more
abbrev pub UnitsCover : Type 0
UnitsCover = (scale window : ℕ)
    → (window ≤ in_units (Some scale) window * 2 ^ scale) × (in_units (Some scale) window * 2 ^ scale < window + 2 ^ scale)

-- by the rule `window`, a packet without data is inside the window exactly where what it acknowledges is near: its own numbers do not
-- matter, if its sender's are in order
abbrev pub BareAcksByAck : Type 0
BareAcksByAck = (scaling : Bool) (s d : Peer) (p : Packet) → IsPeer d → (heard scaling s d p).lo < 2 ^ 32 → d.window < 2 ^ 16 → is_empty p ≡ true
    → seq_geq (heard scaling s d p).hi (heard scaling s d p).lo ≡ true → is_in_window (eased scaling s d p) ≡ is_acknowledgement (eased scaling s d p)
