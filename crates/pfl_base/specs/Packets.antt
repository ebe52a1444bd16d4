-- What a packet is.
use Rattle.std.specs.Prelude.{◌≡◌, ◌≤◌, ℕ, IfSome, Bool, true, false, not, ◌&&◌, ◌||◌, ◌==◌, nat_lt, Option, Some, None, is_some, if◌then◌else◌}
use Rattle.pfl_base.specs.declared.proto.Proto.{Proto}
use Rattle.pfl_base.specs.declared.proto.Proto.TheVariants.{Tcp, Udp, Icmp, Other}
use Rattle.pfl_base.specs.declared.fields.BadPacket.{BadPacket}
use Rattle.pfl_base.specs.declared.fields.BadPacket.TheVariants as bad
use Rattle.pfl_base.specs.Ends.{same_family, IsProto}
use Rattle.pfl_base.specs.declared.fields.PacketFields.{PacketFields}
use Rattle.pfl_base.specs.Flags.{has}

-- the sender is done (RFC 9293)
abbrev pub fin : PacketFields → Bool
fin p = has p.flags 1

-- sequence numbers begin (RFC 9293)
abbrev pub syn : PacketFields → Bool
syn p = has p.flags 2

-- the connection is reset (RFC 9293)
abbrev pub rst : PacketFields → Bool
rst p = has p.flags 4

-- the acknowledged number counts (RFC 9293)
abbrev pub ack : PacketFields → Bool
ack p = has p.flags 16

-- the packet asks for a new connection: SYN without ACK (RFC 9293, 3.5)
abbrev pub is_request : PacketFields → Bool
is_request p = syn p && not (ack p)

-- the protocol is TCP
abbrev pub is_tcp : Proto → Bool
is_tcp Tcp = true
is_tcp _ = false

-- the protocol is ICMP
abbrev pub is_icmp : Proto → Bool
is_icmp Icmp = true
is_icmp _ = false

-- the protocol has ports: TCP and UDP
abbrev pub has_ports : Proto → Bool
has_ports Tcp = true
has_ports Udp = true
has_ports _ = false

-- the ports are those that the protocol allows: ICMP echo has its identifier as both, and others have none (this project's profile)
abbrev pub ports_fit : Proto → ℕ → ℕ → Bool
ports_fit Tcp from to = true
ports_fit Udp from to = true
ports_fit Icmp from to = from == to
ports_fit (Other n) from to = (from == 0) && (to == 0)

-- a field of TCP is given
abbrev pub has_tcp_part : PacketFields → Bool
has_tcp_part p = not (p.flags == 0) || not (p.seq == 0) || not (p.ack == 0) || not (p.window == 0) || is_some p.scale

-- a window scale above 14 (RFC 7323, 2.3)
abbrev pub scale_too_large : Option ℕ → Bool
scale_too_large None = false
scale_too_large (Some scale) = nat_lt 14 scale

-- why these fields are no packet: the first reason
abbrev pub bad_packet : PacketFields → Option BadPacket
bad_packet p =
    if nat_lt 65495 p.len then Some bad.Length else
    if not (is_tcp p.proto) && has_tcp_part p then Some bad.Flags else
    if is_some p.scale && not (syn p) then Some bad.ScaleWithoutSyn else
    if scale_too_large p.scale then Some bad.ScaleTooLarge else
    if not (same_family p.src.addr p.dst.addr) then Some bad.Family else
    if not (ports_fit p.proto p.src.port p.dst.port) then Some bad.Ports else None

-- what a packet is: the fields that have no fault, and a protocol that is written one way
pub record IsPacket (p : PacketFields) : Type 0 where
  pub proto : IsProto p.proto
  pub len : p.len ≤ 65495
  pub tcp_alone : is_tcp p.proto ≡ false → has_tcp_part p ≡ false
  pub scale_with_syn : is_some p.scale ≡ true → syn p ≡ true
  pub scale : IfSome p.scale (λ s. s ≤ 14)
  pub family : same_family p.src.addr p.dst.addr ≡ true
  pub ports : ports_fit p.proto p.src.port p.dst.port ≡ true

-- the packet on its way back: its ends are exchanged
abbrev pub exchanged : PacketFields → PacketFields
exchanged p = record p { src = p.dst; dst = p.src }
