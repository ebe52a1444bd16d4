-- The window of a TCP connection (this project's profile; the names are those of RFC 9293 and RFC 7323).
use Rattle.std.specs.Prelude.{ℕ, ◌+◌, ◌-◌, ◌*◌, ◌^◌, Bool, not, ◌&&◌, ◌||◌, ◌==◌, nat_le, max, None, is_some, if◌then◌else◌, unwrap_or}
use Rattle.pfl_base.specs.declared.packet.Packet.{Packet}
use Rattle.pfl_base.specs.Packets.{syn, fin, ack}
use Rattle.pfl_base.specs.Sequence.{add32, sub32, seq_gt, seq_geq}
use Rattle.pfl_track.specs.declared.peer.Peer.{Peer}
use Rattle.pfl_track.specs.Levels.{syn_sent, sender_level, receiver_level}

-- 1 where it holds
abbrev pub one_if : Bool → ℕ
one_if b = if b then 1 else 0

-- the sequence number after the packet: SYN and FIN take one each (RFC 9293, 3.4)
abbrev pub end_of : Packet → ℕ
end_of p = add32 p.seq (p.len + one_if (syn p) + one_if (fin p))

-- windows are scaled if both ends offered a scale, and the packet has no SYN (RFC 7323, 2.2)
abbrev pub is_scaled : Peer → Peer → Packet → Bool
is_scaled s d p = is_some s.scale && is_some d.scale && not (syn p)

-- a window at the end's scale
abbrev pub at_scale : Bool → Peer → ℕ → ℕ
at_scale given e window = if given then window * 2 ^ unwrap_or e.scale 0 else window

-- the sender s before its packet to d: one that was silent begins here, and without SYN it has no scale for good; its first
-- packet is never scaled, since it has SYN, or its sender offered nothing
abbrev pub begun : Peer → Peer → Packet → Peer
begun s d p =
    if s.level == 0 then record {
      level = syn_sent;
      scale = if syn p then p.scale else None;
      window = 0;
      lo = p.seq;
      hi = add32 (end_of p) (max 1 d.window);
    } else s

-- an acknowledgement counts where the other end has begun
abbrev pub acknowledges : Peer → Packet → Bool
acknowledges d p = ack p && nat_le syn_sent d.level

-- the packet ends within what was allowed
abbrev pub right_edge : Peer → Packet → Bool
right_edge s p = seq_geq s.hi (end_of p)

-- the packet begins no more than a window back
abbrev pub left_edge : Peer → ℕ → Packet → Bool
left_edge s window p = seq_geq p.seq (sub32 s.lo window)

-- how far an acknowledged number may be from what the other end sent: a packet of 65535 bytes, and one more of 1500 (pf's MAXACKWINDOW)
abbrev pub max_ack_window : ℕ
max_ack_window = 67035

-- the other end's lo is at most so far ahead of the acknowledged number, and at most an acknowledgement's window behind it
abbrev pub ack_near : ℕ → Peer → Packet → Bool
ack_near ahead d p = nat_le (sub32 d.lo p.ack) ahead || nat_le (2 ^ 32 - max_ack_window) (sub32 d.lo p.ack)

-- the packet of s, which has begun, to d is inside the window
abbrev pub is_inside : Peer → Peer → Packet → Bool
is_inside s d p =
    right_edge s p
    && left_edge s (at_scale (is_scaled s d p) d d.window) p
    && (not (acknowledges d p) || ack_near (at_scale (is_scaled s d p) s max_ack_window) d p)

-- the sender after it
abbrev pub sender_after : Peer → Packet → Peer
sender_after s p = record s {
  level = sender_level p s.level;
  window = max (max s.window p.window) 1;
  lo = if seq_gt (end_of p) s.lo then end_of p else s.lo;
}

-- the window that the packet offers
abbrev pub offered : Peer → Peer → Packet → ℕ
offered s d p = at_scale (is_scaled s d p) s p.window

-- the other end's allowance after it
abbrev pub allowance : Peer → Peer → Packet → ℕ
allowance s d p =
    if acknowledges d p && seq_geq (add32 p.ack (offered s d p)) d.hi
    then add32 p.ack (max (offered s d p) 1) else d.hi

-- the other end after it
abbrev pub receiver_after : Peer → Peer → Packet → Peer
receiver_after s d p = record d { level = receiver_level p d.level; hi = allowance s d p }
