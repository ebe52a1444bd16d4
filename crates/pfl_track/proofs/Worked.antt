-- Worked examples of tracking, computed.
use Rattle.std.specs.Prelude.{◌≡◌, ℕ, false, Option, Some, None, refl}
use Rattle.pfl_base.specs.declared.addr.Addr.TheVariants.{V4}
use Rattle.pfl_base.specs.declared.addr.End.{End}
use Rattle.pfl_base.specs.declared.proto.Proto.TheVariants.{Tcp, Udp}
use Rattle.pfl_base.specs.declared.direction.Dir.{Dir}
use Rattle.pfl_base.specs.declared.direction.Dir.TheVariants.{Inbound, Outbound}
use Rattle.pfl_base.specs.declared.packet.Packet.{Packet}
use Rattle.pfl_base.specs.declared.class.Class.{Class}
use Rattle.pfl_base.specs.declared.class.Class.TheVariants.{TcpFirst, TcpOpening, TcpEstablished, TcpClosing, TcpFinWait, TcpClosed, UdpFirst}
use Rattle.pfl_base.specs.declared.class.Class.TheVariants.{UdpSingle, UdpMultiple}
use Rattle.pfl_base.specs.Keys.{key}
use Rattle.pfl_track.specs.declared.peer.Peer.{Peer}
use Rattle.pfl_track.specs.declared.state.State.{State}
use Rattle.pfl_track.specs.declared.tracked.Tracked.{Tracked}
use Rattle.pfl_track.specs.declared.tracked.Tracked.TheVariants.{Moved, OutOfWindow, Reused}
use Rattle.pfl_track.specs.Tracking.{start_state, tracked}

abbrev inside : End
inside = record { addr = V4 0x0a000001; port = 1000 }

abbrev pub outside : ℕ → End
outside port = record { addr = V4 0xc0000209; port = port }

abbrev pub tcp : Dir → ℕ → ℕ → ℕ → ℕ → Packet
tcp Outbound flags seq ack window =
    record { proto = Tcp; src = inside; dst = outside 80; flags = flags; seq = seq; ack = ack; window = window; len = 0; scale = None }
tcp Inbound flags seq ack window =
    record { proto = Tcp; src = outside 80; dst = inside; flags = flags; seq = seq; ack = ack; window = window; len = 0; scale = None }

abbrev pub udp : Dir → Packet
udp Outbound = record { proto = Udp; src = inside; dst = outside 53; flags = 0; seq = 0; ack = 0; window = 0; len = 40; scale = None }
udp Inbound = record { proto = Udp; src = outside 53; dst = inside; flags = 0; seq = 0; ack = 0; window = 0; len = 80; scale = None }

abbrev pub begin : Packet → State
begin p = start_state (record { creator = 1; id = 1 }) (key p Outbound) (key p Outbound) Outbound p (Some 0) false 0

-- levels and class, or none where the packet is dropped or the state reused
abbrev pub Seen : Type 0
Seen = ℕ × ℕ × Class

abbrev pub seen : State → Seen
seen s = (s.src.level, s.dst.level, s.class)

abbrev then : Tracked → Dir → Packet → Tracked
then (Moved s) dir p = tracked s p dir 0
then OutOfWindow dir p = OutOfWindow
then Reused dir p = Reused

abbrev pub shown : Tracked → Option Seen
shown (Moved s) = Some (seen s)
shown OutOfWindow = None
shown Reused = None

-- a lookup, its answer, and another packet
udp_first : seen (begin (udp Outbound)) ≡ (1, 0, UdpFirst)
udp_first = refl

udp_answered : shown (then (Moved (begin (udp Outbound))) Inbound (udp Inbound)) ≡ Some (2, 1, UdpSingle)
udp_answered = refl

udp_again : shown (then (then (Moved (begin (udp Outbound))) Inbound (udp Inbound)) Outbound (udp Outbound)) ≡ Some (2, 2, UdpMultiple)
udp_again = refl

udp_one_way : shown (then (Moved (begin (udp Outbound))) Outbound (udp Outbound)) ≡ Some (1, 0, UdpSingle)
udp_one_way = refl

-- a connection from SYN to both FINs
abbrev pub opened : Tracked
opened = then (then (Moved (begin (tcp Outbound 2 100 0 1000))) Inbound (tcp Inbound 18 500 101 2000)) Outbound (tcp Outbound 16 101 501 1000)

tcp_first : seen (begin (tcp Outbound 2 100 0 1000)) ≡ (2, 0, TcpFirst)
tcp_first = refl

tcp_answered : shown (then (Moved (begin (tcp Outbound 2 100 0 1000))) Inbound (tcp Inbound 18 500 101 2000)) ≡ Some (4, 2, TcpOpening)
tcp_answered = refl

tcp_opened : shown opened ≡ Some (4, 4, TcpEstablished)
tcp_opened = refl

abbrev pub ends : Tracked → Option (Peer × Peer)
ends (Moved s) = Some (s.src, s.dst)
ends OutOfWindow = None
ends Reused = None

tcp_ends : ends opened ≡ Some
    (record { level = 4; scale = None; window = 1000; lo = 101; hi = 2101 }, record { level = 4; scale = None; window = 2000; lo = 501; hi = 1501 })
tcp_ends = refl

tcp_outside : then opened Inbound (tcp Inbound 16 5000 101 2000) ≡ OutOfWindow
tcp_outside = refl

abbrev leaving : Tracked
leaving = then opened Outbound (tcp Outbound 17 101 501 1000)

tcp_leaving : shown leaving ≡ Some (7, 4, TcpClosing)
tcp_leaving = refl

abbrev left : Tracked
left = then leaving Inbound (tcp Inbound 17 501 102 2000)

tcp_left : shown left ≡ Some (9, 7, TcpFinWait)
tcp_left = refl

abbrev pub closed : Tracked
closed = then left Outbound (tcp Outbound 16 102 502 1000)

tcp_closed : shown closed ≡ Some (9, 9, TcpClosed)
tcp_closed = refl

tcp_reused : then closed Outbound (tcp Outbound 2 9000 0 1000) ≡ Reused
tcp_reused = refl
