-- Addresses, ends and protocols.
use Rattle.std.specs.Prelude.{◌≡◌, ℕ, Bool, true, false, ◌&&◌, ◌==◌, if◌then◌else◌}
use Rattle.pfl_base.specs.declared.addr.Addr.{Addr}
use Rattle.pfl_base.specs.declared.addr.Addr.TheVariants.{V4, V6}
use Rattle.pfl_base.specs.declared.addr.End.{End}
use Rattle.pfl_base.specs.declared.proto.Proto.{Proto}
use Rattle.pfl_base.specs.declared.proto.Proto.TheVariants.{Tcp, Udp, Icmp, Other}

-- the two are one address (RFC 791, RFC 8200)
abbrev pub is_addr : Addr → Addr → Bool
is_addr (V4 a) (V4 b) = a == b
is_addr (V6 a) (V6 b) = a == b
is_addr _ _ = false

-- the address is one of IPv4
abbrev pub is_v4 : Addr → Bool
is_v4 (V4 a) = true
is_v4 (V6 a) = false

-- the two are of one family
abbrev pub same_family : Addr → Addr → Bool
same_family (V4 a) (V4 b) = true
same_family (V6 a) (V6 b) = true
same_family _ _ = false

-- the two are one address and port
abbrev pub is_end : End → End → Bool
is_end e f = is_addr e.addr f.addr && (e.port == f.port)

-- the protocol's number (RFC 790)
abbrev pub proto_number : Proto → ℕ
proto_number Tcp = 6
proto_number Udp = 17
proto_number Icmp = 1
proto_number (Other n) = n

-- the protocol of a number
abbrev pub proto_of : ℕ → Proto
proto_of n = if n == 6 then Tcp else if n == 17 then Udp else if n == 1 then Icmp else Other n

-- the protocol is that of its number: `Other` holds none of the first three
abbrev pub IsProto : Proto → Type 0
IsProto p = proto_of (proto_number p) ≡ p
