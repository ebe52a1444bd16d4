-- How a state begins, and how packets move it (pf.c; reuse is this project's profile).
use Rattle.std.specs.Prelude.{ℕ, ◌+◌, ◌*◌, Bool, false, not, ◌&&◌, ◌==◌, nat_le, max, Option, None, if◌then◌else◌}
use Rattle.pfl_base.specs.declared.direction.Dir.{Dir}
use Rattle.pfl_base.specs.declared.flow.Key.{Key}
use Rattle.pfl_base.specs.declared.packet.Packet.{Packet}
use Rattle.pfl_base.specs.declared.state_name.StateName.{StateName}
use Rattle.pfl_base.specs.Keys.{is_dir}
use Rattle.pfl_base.specs.Packets.{is_tcp, is_request}
use Rattle.pfl_base.specs.Sequence.{add32}
use Rattle.pfl_track.specs.declared.peer.Peer.{Peer}
use Rattle.pfl_track.specs.declared.state.State.{State}
use Rattle.pfl_track.specs.declared.tracked.Tracked.{Tracked}
use Rattle.pfl_track.specs.declared.tracked.Tracked.TheVariants.{Moved, OutOfWindow, Reused}
use Rattle.pfl_track.specs.Levels.{syn_sent, fin_wait_2, single, multiple, first_class, class_after}
use Rattle.pfl_track.specs.Windows.{end_of, begun, is_inside, sender_after, receiver_after}

-- an end that was not heard of
abbrev pub silent : Peer
silent = record { level = 0; scale = None; window = 0; lo = 0; hi = 0 }

-- an end after its first packet
abbrev pub first_peer : Packet → Peer
first_peer p =
    if is_tcp p.proto
    then record { level = syn_sent; scale = p.scale; window = max p.window 1; lo = p.seq; hi = add32 (end_of p) 1 }
    else record silent { level = single }

-- the state that a packet makes
abbrev pub start_state : StateName → Key → Key → Dir → Packet → Option ℕ → Bool → ℕ → State
start_state name wire stack dir p rule no_sync now = record {
  name = name;
  wire = wire;
  stack = stack;
  direction = dir;
  src = first_peer p;
  dst = silent;
  class = first_class p.proto;
  last = now;
  rule = rule;
  no_sync = no_sync;
  ack_wanted = false;
  updates = 0;
  peer_change = None;
}

-- the packet comes from the end that sent the first one
abbrev pub from_src : State → Dir → Bool
from_src s dir = is_dir s.direction dir

-- the end that sent the packet
abbrev pub sender : State → Dir → Peer
sender s dir = if from_src s dir then s.src else s.dst

-- the other end
abbrev pub receiver : State → Dir → Peer
receiver s dir = if from_src s dir then s.dst else s.src

-- the state with these ends, used now
abbrev pub used : State → Peer → Peer → ℕ → State
used s src dst now = record s { src = src; dst = dst; class = class_after s.wire.proto src.level dst.level; last = now }

-- the same by who sent
abbrev pub moved : State → Dir → Peer → Peer → ℕ → State
moved s dir from to now = if from_src s dir then used s from to now else used s to from now

-- both ends have closed
abbrev pub is_closed : State → Bool
is_closed s = nat_le fin_wait_2 s.src.level && nat_le fin_wait_2 s.dst.level

-- a TCP packet: a new connection over a closed one, one outside the window, or one that moves the state
abbrev pub tracked_tcp : State → Packet → Dir → ℕ → Tracked
tracked_tcp s p dir now =
    let to = receiver s dir in
    let from = begun (sender s dir) to p in
    if is_request p && is_closed s then Reused else
    if not (is_inside from to p) then OutOfWindow else
    Moved (moved s dir (sender_after from p) (receiver_after from to p) now)

-- a packet of another protocol: the sender is heard, and the other end answered (pf.c)
abbrev pub tracked_other : State → Dir → ℕ → State
tracked_other s dir now =
    let from = sender s dir in
    let to = receiver s dir in
    moved s dir (record from { level = max from.level single }) (record to { level = if to.level == single then multiple else to.level }) now

-- what a packet of the state's flow does to it
abbrev pub tracked : State → Packet → Dir → ℕ → Tracked
tracked s p dir now = if is_tcp p.proto then tracked_tcp s p dir now else Moved (tracked_other s dir now)

-- milliseconds: a timeout after the last use, in seconds (pf.conf(5))
abbrev pub expiry : State → ℕ → ℕ
expiry s timeout = s.last + timeout * 1000

-- the time has come; a state that expired stays until it is purged
abbrev pub expired : State → ℕ → ℕ → Bool
expired s timeout now = nat_le (expiry s timeout) now
