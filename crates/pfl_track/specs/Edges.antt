-- The window of a TCP connection, edge by edge, and by how much a packet misses each (this project's profile).
use Rattle.std.specs.Prelude.{◌≡◌, ℕ, ◌-◌, ◌^◌, Bool, true, ◌&&◌, min, Option, Some, None, is_none, if◌then◌else◌}
use Rattle.std.specs.Option.{option_map_or}
use Rattle.pfl_base.specs.declared.direction.Dir.{Dir}
use Rattle.pfl_base.specs.declared.packet.Packet.{Packet}
use Rattle.pfl_base.specs.Sequence.{add32, sub32}
use Rattle.pfl_track.specs.declared.edges.AckTest.{AckTest}
use Rattle.pfl_track.specs.declared.edges.EdgeTest.{EdgeTest}
use Rattle.pfl_track.specs.declared.edges.WindowTest.{WindowTest}
use Rattle.pfl_track.specs.declared.peer.Peer.{Peer}
use Rattle.pfl_track.specs.declared.state.State.{State}
use Rattle.pfl_track.specs.Tracking.{receiver, sender}
use Rattle.pfl_track.specs.Windows.{ack_near, acknowledges, at_scale, begun, end_of, is_inside, is_scaled, left_edge, max_ack_window, right_edge}

-- a distance, unless there is nothing to miss
abbrev pub unless : Bool → ℕ → Option ℕ
unless holds distance = if holds then None else Some distance

-- the right edge: the packet ends past what was allowed by so much
abbrev pub right_test : Peer → Packet → EdgeTest
right_test s p = record { number = end_of p; bound = s.hi; missed = unless (right_edge s p) (sub32 (end_of p) s.hi) }

-- the left edge: it begins so much before the window
abbrev pub left_test : Peer → ℕ → Packet → EdgeTest
left_test s window p = record { number = p.seq; bound = sub32 s.lo window; missed = unless (left_edge s window p) (sub32 (sub32 s.lo window) p.seq) }

-- the acknowledged number lies outside its two bounds by so much, the nearer one counted
abbrev pub ack_test : ℕ → Peer → Packet → AckTest
ack_test ahead d p = record {
  number = p.ack;
  least = sub32 d.lo ahead;
  most = add32 d.lo max_ack_window;
  missed = unless (ack_near ahead d p) (min (sub32 d.lo p.ack - ahead) ((2 ^ 32 - max_ack_window) - sub32 d.lo p.ack));
}

-- the test of a packet of s, which has begun, to d
unfoldable pub tested_by : Peer → Peer → Packet → WindowTest
tested_by s d p = record {
  right = right_test s p;
  left = left_test s (at_scale (is_scaled s d p) d d.window) p;
  ack = if acknowledges d p then Some (ack_test (at_scale (is_scaled s d p) s max_ack_window) d p) else None;
}

-- the test of a packet of the state
abbrev pub window_test : State → Dir → Packet → WindowTest
window_test s dir p = tested_by (begun (sender s dir) (receiver s dir) p) (receiver s dir) p

-- no edge is missed
abbrev pub is_met : WindowTest → Bool
is_met t = is_none t.right.missed && is_none t.left.missed && option_map_or (λ a. is_none a.missed) t.ack true

-- a packet is inside the window where it misses no edge
abbrev pub TestsAgree : Type 0
TestsAgree = (s d : Peer) (p : Packet) → is_met (tested_by s d p) ≡ is_inside s d p
