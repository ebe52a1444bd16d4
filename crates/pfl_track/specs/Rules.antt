-- How states begin, and how packets move them, by the rules that are the kernel's: the window as FreeBSD 13's pf_tcp_track_full has it,
-- and states of ICMP without levels (pf.c, as far as we know it). With none of these rules it is as in this project's profile (Tracking,
-- Windows).
use Rattle.std.specs.Prelude.{ℕ, ◌+◌, ◌-◌, ◌/◌, ◌%◌, ◌^◌, Bool, true, not, ◌&&◌, ◌||◌, ◌==◌, nat_lt, nat_le, max, min, Option, Some, None}
use Rattle.std.specs.Prelude.{if◌then◌else◌, is_some, is_none}
use Rattle.std.specs.Option.{option_map_or}
use Rattle.pfl_base.specs.declared.direction.Dir.{Dir}
use Rattle.pfl_base.specs.declared.packet.Packet.{Packet}
use Rattle.pfl_base.specs.declared.proto.Proto.{Proto}
use Rattle.pfl_base.specs.Packets.{is_tcp, is_icmp, is_request, syn, fin, rst}
use Rattle.pfl_base.specs.Sequence.{add32, sub32, seq_gt, seq_geq}
use Rattle.pfl_track.specs.declared.peer.Peer.{Peer}
use Rattle.pfl_track.specs.declared.branch.Branch.{Branch}
use Rattle.pfl_track.specs.declared.branch.Branch.TheVariants.{Window, Loose}
use Rattle.pfl_base.specs.declared.kernel.Kernel.{Kernel}
use Rattle.pfl_track.specs.declared.segment.Segment.{Segment}
use Rattle.pfl_track.specs.declared.state.State.{State}
use Rattle.pfl_track.specs.declared.tracked.Tracked.{Tracked}
use Rattle.pfl_track.specs.declared.tracked.Tracked.TheVariants.{Moved, OutOfWindow, Reused}
use Rattle.pfl_track.specs.Levels.{syn_sent, closing, fin_wait_2, time_wait, sender_level, receiver_level}
use Rattle.pfl_track.specs.Tracking.{from_src, sender, receiver, moved, used, is_closed, tracked_other}
use Rattle.pfl_track.specs.Windows.{end_of, is_scaled, at_scale, begun, acknowledges, max_ack_window}

-- none of the rules by which packets of TCP are tracked is the kernel's
abbrev pub tracks_by_profile : Kernel → Bool
tracks_by_profile kernel = not (kernel.window || kernel.loose || kernel.reset || kernel.scale)

-- a window in units of a scale: the whole ones, and one more for what is left; where no scale was offered, as it is (RFC 7323, 2.2; pf.c)
abbrev pub in_units : Option ℕ → ℕ → ℕ
in_units None window = window
in_units (Some scale) window = window / 2 ^ scale + min 1 (window % 2 ^ scale)

-- the ends of states of this protocol have no levels (the rule `icmp`)
abbrev pub has_no_levels : Kernel → Proto → Bool
has_no_levels kernel proto = kernel.icmp && is_icmp proto

-- the end that sent the packet which made the state: the window of its SYN is kept in units of the scale that it offers (the rule
-- `scale`), and by `icmp` one of ICMP has no level
abbrev pub first_end : Kernel → Proto → Peer → Peer
first_end kernel proto s = record s {
  level = if has_no_levels kernel proto then 0 else s.level;
  window = if kernel.scale then in_units s.scale s.window else s.window;
}

-- the state that a packet has made
abbrev pub started_by : Kernel → State → State
started_by kernel s = record s { src = first_end kernel s.wire.proto s.src }

-- nothing was heard of the end (pf asks for lo 0 alone; that it has no window either is ours, since a number 0 is met in examples)
abbrev pub is_unheard : Peer → Bool
is_unheard s = (s.lo == 0) && (s.window == 0)

-- the end begins with its next packet: by `window` where nothing was heard of it, by the profile where it has no level
abbrev pub is_to_begin : Kernel → Peer → Bool
is_to_begin kernel s = if kernel.window then is_unheard s else s.level == 0

-- the packet is the SYN by which s begins, and answers d's offer of a scale (the rule `scale`)
abbrev pub answers_offer : Kernel → Peer → Peer → Packet → Bool
answers_offer kernel s d p = kernel.scale && is_to_begin kernel s && syn p && is_some d.scale

-- and offers one itself, so that it counts at scale already
abbrev pub takes_offer : Kernel → Peer → Peer → Packet → Bool
takes_offer kernel s d p = answers_offer kernel s d p && is_some p.scale

-- an end whose offer came to nothing: its window counts as it is from now on, and has 16 bits (that it stays within them is ours: in pf
-- 65536 becomes 0)
abbrev pub without_scale : Peer → Peer
without_scale d = record d { scale = None; window = min (at_scale true d d.window) 65535 }

-- d at the packet of s
abbrev pub receiver_at : Kernel → Peer → Peer → Packet → Peer
receiver_at kernel s d p = if answers_offer kernel s d p && is_none p.scale then without_scale d else d

-- up to where s may send after its first packet: a window of d's
abbrev pub first_allowance : Bool → Peer → Packet → ℕ
first_allowance scaled d p = add32 (end_of p) (max (at_scale scaled d d.window) 1)

-- the window that the packet offers: the SYN that takes the other end's offer has it in units of its own scale
abbrev pub window_of : Bool → Packet → ℕ
window_of scaling p = if scaling then in_units p.scale p.window else p.window

-- the sender s before its packet to d by the profile, and what it is allowed where the packet takes d's offer
abbrev pub begun_at : Bool → Peer → Peer → Packet → Peer
begun_at scaling s d p = if scaling then record (begun s d p) { hi = first_allowance true d p } else begun s d p

-- by the profile, a packet of s to d is judged by its own numbers, and what it acknowledges counts where d has begun (scaling: it
-- takes d's offer of a scale)
abbrev pub plain : Bool → Peer → Peer → Packet → Segment
plain scaling s d p =
    let from = begun_at scaling s d p in
    record {
      sender = from;
      receiver = d;
      scaled = scaling || is_scaled from d p;
      window = window_of scaling p;
      seq = p.seq;
      end = end_of p;
      ack = if acknowledges d p then Some p.ack else None;
    }

-- s, which was never heard, at its first packet to d: what was allowed it before stays, where that is further on (pf has 1 where it
-- was allowed nothing)
abbrev pub met : Bool → Peer → Peer → Packet → Peer
met scaling s d p =
    let first = first_allowance (scaling || is_scaled s d p) d p in
    record s {
      level = max s.level syn_sent;
      scale = if syn p then p.scale else s.scale;
      lo = p.seq;
      hi = if nat_le s.hi 1 || seq_geq first s.hi then first else s.hi;
    }

-- the sender s before its packet to d: one that was never heard begins here, whatever its level
abbrev pub heard : Bool → Peer → Peer → Packet → Peer
heard scaling s d p = if is_unheard s then met scaling s d p else s

-- no byte, no SYN and no FIN
abbrev pub is_empty : Packet → Bool
is_empty p = p.seq == end_of p

-- the acknowledged number: that of a packet without ACK, or to an end that has not begun, or the 0 of a RST, says nothing, and what d
-- sent takes its place
abbrev pub counted_ack : Peer → Packet → ℕ
counted_ack d p = if acknowledges d p && not (rst p && (p.ack == 0)) then p.ack else d.lo

-- by the kernel, a packet without data lies where its sender stands, and each acknowledges something
abbrev pub eased : Bool → Peer → Peer → Packet → Segment
eased scaling s d p =
    let from = heard scaling s d p in
    record {
      sender = from;
      receiver = d;
      scaled = scaling || is_scaled from d p;
      window = window_of scaling p;
      seq = if is_empty p then from.lo else p.seq;
      end = if is_empty p then from.lo else end_of p;
      ack = Some (counted_ack d p);
    }

-- the packet of s to d as it is judged (the rules `window` and `scale`)
abbrev pub segment_of : Kernel → Peer → Peer → Packet → Segment
segment_of kernel s d p =
    let scaling = takes_offer kernel s d p in
    let to = receiver_at kernel s d p in
    if kernel.window then eased scaling s to p else plain scaling s to p

-- where a packet may begin at the earliest: a window back
abbrev pub back_of : Segment → ℕ
back_of g = sub32 g.sender.lo (at_scale g.scaled g.receiver g.receiver.window)

-- how far the other end may be ahead of what is acknowledged
abbrev pub ahead_of : Segment → ℕ
ahead_of g = at_scale g.scaled g.sender max_ack_window

-- lo is at most so far ahead of the acknowledged number, and at most an acknowledgement's window behind it
abbrev pub is_near : ℕ → ℕ → ℕ → Bool
is_near ahead lo number = nat_le (sub32 lo number) ahead || nat_le (2 ^ 32 - max_ack_window) (sub32 lo number)

-- what it acknowledges is near what the other end sent, if that counts
abbrev pub is_acknowledgement : Segment → Bool
is_acknowledgement g = option_map_or (is_near (ahead_of g) g.receiver.lo) g.ack true

-- all edges of the window hold
abbrev pub is_in_window : Segment → Bool
is_in_window g = seq_geq g.sender.hi g.end && seq_geq g.seq (back_of g) && is_acknowledgement g

-- a RST is asked for its number (the rule `reset`)
abbrev pub asks_number : Kernel → Packet → Bool
asks_number kernel p = kernel.reset && rst p

-- the number is lo, or beside it
abbrev pub is_beside : ℕ → ℕ → Bool
is_beside number lo = (number == lo) || (number == add32 lo 1) || (add32 number 1 == lo)

-- the packet is inside the window; of a RST its own number is looked at, also where it has no data
abbrev pub is_inside_by : Kernel → Segment → Packet → Bool
is_inside_by kernel g p = is_in_window g && (not (asks_number kernel p) || is_beside p.seq g.sender.lo)

-- a packet may pass loosely where the other end was not heard, or an end has closed
abbrev pub is_lenient : Segment → Bool
is_lenient g = nat_lt g.receiver.level syn_sent || nat_le fin_wait_2 g.receiver.level || nat_le fin_wait_2 g.sender.level

-- where such a packet may end at the latest
abbrev pub loose_end : Segment → ℕ
loose_end g = add32 g.sender.hi max_ack_window

-- where it may begin at the earliest
abbrev pub loose_back : Segment → ℕ
loose_back g = sub32 g.sender.lo max_ack_window

-- the packet is within an acknowledgement's window of what is known of its sender
abbrev pub is_nearby : Segment → Bool
is_nearby g = seq_geq (loose_end g) g.end && seq_geq g.seq (loose_back g)

-- how the packet passes, if it does: inside the window, or else loosely (the rule `loose`)
abbrev pub branch : Kernel → Segment → Packet → Option Branch
branch kernel g p =
    if is_inside_by kernel g p then Some Window else
    if kernel.loose && is_lenient g && is_nearby g then Some Loose else None

-- of a packet that passes loosely, FIN and RST lift the sender; neither SYN nor ACK lifts an end
abbrev pub loose_sender_level : Packet → ℕ → ℕ
loose_sender_level p level = if rst p then time_wait else if fin p then max level closing else level

-- RST alone lifts the other end
abbrev pub loose_receiver_level : Packet → ℕ → ℕ
loose_receiver_level p level = if rst p then time_wait else level

-- the sender's level after a packet that passed so
abbrev pub sender_level_by : Branch → Packet → ℕ → ℕ
sender_level_by Window p level = sender_level p level
sender_level_by Loose p level = loose_sender_level p level

-- the other end's level after it
abbrev pub receiver_level_by : Branch → Packet → ℕ → ℕ
receiver_level_by Window p level = receiver_level p level
receiver_level_by Loose p level = loose_receiver_level p level

-- the sender after it
abbrev pub sender_by : Branch → Segment → Packet → Peer
sender_by b g p = record g.sender {
  level = sender_level_by b p g.sender.level;
  window = max (max g.sender.window g.window) 1;
  lo = if seq_gt g.end g.sender.lo then g.end else g.sender.lo;
}

-- what may be sent up to where this much is offered beyond an acknowledged number
abbrev pub widened : ℕ → ℕ → ℕ → ℕ
widened hi window number = if seq_geq (add32 number window) hi then add32 number (max window 1) else hi

-- the window that it offers
abbrev pub offered_by : Segment → ℕ
offered_by g = at_scale g.scaled g.sender g.window

-- the other end's allowance after it
abbrev pub allowance_by : Segment → ℕ
allowance_by g = option_map_or (widened g.receiver.hi (offered_by g)) g.ack g.receiver.hi

-- the other end after it
abbrev pub receiver_by : Branch → Segment → Packet → Peer
receiver_by b g p = record g.receiver { level = receiver_level_by b p g.receiver.level; hi = allowance_by g }

-- the state with these ends by who sent; its class and its last use stay
abbrev pub touched : State → Dir → Peer → Peer → State
touched s dir from to = if from_src s dir then record s { src = from; dst = to } else record s { src = to; dst = from }

-- the state after a packet that passes so: one that passes loosely does not renew it
abbrev pub after : State → Segment → Packet → Dir → ℕ → Branch → State
after s g p dir now Window = moved s dir (sender_by Window g p) (receiver_by Window g p) now
after s g p dir now Loose = touched s dir (sender_by Loose g p) (receiver_by Loose g p)

-- what comes of the state where the packet passes so, if it does
abbrev pub passed : State → Segment → Packet → Dir → ℕ → Option Branch → Tracked
passed s g p dir now None = OutOfWindow
passed s g p dir now (Some b) = Moved (after s g p dir now b)

-- a TCP packet, where these rules are the kernel's
abbrev pub tracked_tcp_by : Kernel → State → Packet → Dir → ℕ → Tracked
tracked_tcp_by kernel s p dir now =
    let g = segment_of kernel (sender s dir) (receiver s dir) p in
    if is_request p && is_closed s then Reused else
    passed s g p dir now (branch kernel g p)

-- a packet of another protocol, where these rules are the kernel's: where its ends have no levels, it only uses the state
abbrev pub tracked_other_by : Kernel → State → Packet → Dir → ℕ → State
tracked_other_by kernel s p dir now = if has_no_levels kernel p.proto then used s s.src s.dst now else tracked_other s dir now

-- what a packet of the state's flow does to it, where these rules are the kernel's
abbrev pub tracked_by : Kernel → State → Packet → Dir → ℕ → Tracked
tracked_by kernel s p dir now = if is_tcp p.proto then tracked_tcp_by kernel s p dir now else Moved (tracked_other_by kernel s p dir now)
