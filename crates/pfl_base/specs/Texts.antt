-- The texts of addresses, names and words (this project's profile).
use Rattle.std.specs.Prelude.{ℕ, ◌+◌, ◌/◌, ◌%◌, ◌^◌, nat_lt, List, [], ◌∷◌, ◌++◌, if◌then◌else◌, codes, Option, Some, None, unwrap_or}
use Rattle.std.specs.Fmt.{decimal}
use Rattle.pfl_base.specs.declared.addr.Addr.{Addr}
use Rattle.pfl_base.specs.declared.addr.Addr.TheVariants.{V4, V6}
use Rattle.pfl_base.specs.declared.addr.End.{End}
use Rattle.pfl_base.specs.Ends.{proto_number}
use Rattle.pfl_base.specs.declared.class.Class.{Class}
use Rattle.pfl_base.specs.declared.class.Class.TheVariants.{TcpFirst, TcpOpening, TcpEstablished, TcpClosing, TcpFinWait, TcpClosed, UdpFirst}
use Rattle.pfl_base.specs.declared.class.Class.TheVariants.{UdpSingle, UdpMultiple, IcmpFirst, IcmpError, OtherFirst, OtherSingle, OtherMultiple}
use Rattle.pfl_base.specs.declared.direction.Dir.{Dir}
use Rattle.pfl_base.specs.declared.direction.Dir.TheVariants.{Inbound, Outbound}
use Rattle.pfl_base.specs.declared.node_id.NodeId.{NodeId}
use Rattle.pfl_base.specs.declared.node_id.NodeId.TheVariants.{A, B}
use Rattle.pfl_base.specs.declared.proto.Proto.{Proto}
use Rattle.pfl_base.specs.declared.proto.Proto.TheVariants.{Tcp, Udp, Icmp, Other}
use Rattle.pfl_base.specs.declared.refusal.Refusal.{Refusal}
use Rattle.pfl_base.specs.declared.refusal.Refusal.TheVariants.{NoSuchFrame, NothingPending, NoSuchState, LinkFull, QueueFull, ClockFull, CountFull}
use Rattle.pfl_base.specs.declared.refusal.Refusal.TheVariants.{NotSyncing, TooEarly, NoMemory}
use Rattle.pfl_base.specs.declared.state_name.StateName.{StateName}

-- a hexadecimal digit, in lower case
abbrev pub hex_digit : ℕ → ℕ
hex_digit d = if nat_lt d 10 then 48 + d else 87 + d

-- two hexadecimal digits
abbrev pub hex_byte : ℕ → List ℕ
hex_byte b = hex_digit (b / 16) ∷ hex_digit (b % 16) ∷ []

-- four hexadecimal digits of a number of 16 bits
abbrev pub group_text : ℕ → List ℕ
group_text n = hex_byte (n / 2 ^ 8) ++ hex_byte (n % 2 ^ 8)

-- four groups of a number of 64 bits, joined by colons
abbrev pub groups_text : ℕ → List ℕ
groups_text n = group_text (n / 2 ^ 48) ++ codes ":" ++ group_text (n / 2 ^ 32 % 2 ^ 16) ++ codes ":" ++ group_text (n / 2 ^ 16 % 2 ^ 16)
    ++ codes ":" ++ group_text (n % 2 ^ 16)

-- four numbers joined by dots, or eight groups joined by colons
abbrev pub address_text : Addr → List ℕ
address_text (V4 n) = decimal (n / 2 ^ 24) ++ codes "." ++ decimal (n / 2 ^ 16 % 2 ^ 8) ++ codes "." ++ decimal (n / 2 ^ 8 % 2 ^ 8)
    ++ codes "." ++ decimal (n % 2 ^ 8)
address_text (V6 n) = groups_text (n / 2 ^ 64) ++ codes ":" ++ groups_text (n % 2 ^ 64)

-- an address beside a port
abbrev pub host_text : Addr → List ℕ
host_text (V4 a) = address_text (V4 a)
host_text (V6 a) = codes "[" ++ address_text (V6 a) ++ codes "]"

-- an address and a port
abbrev pub end_text : End → List ℕ
end_text e = host_text e.addr ++ codes ":" ++ decimal e.port

-- the word of a protocol that has one
abbrev pub proto_word : Proto → Option (List ℕ)
proto_word Tcp = Some (codes "tcp")
proto_word Udp = Some (codes "udp")
proto_word Icmp = Some (codes "icmp")
proto_word (Other n) = None

-- a protocol, by word or number
abbrev pub proto_text : Proto → List ℕ
proto_text p = unwrap_or (proto_word p) (decimal (proto_number p))

-- the word of a direction
abbrev pub dir_text : Dir → List ℕ
dir_text Inbound = codes "in"
dir_text Outbound = codes "out"

-- the word of a node
abbrev pub node_text : NodeId → List ℕ
node_text A = codes "a"
node_text B = codes "b"

-- the name of a state
abbrev pub name_text : StateName → List ℕ
name_text n = decimal n.creator ++ codes "." ++ decimal n.id

-- the word of a class
abbrev pub class_text : Class → List ℕ
class_text TcpFirst = codes "tcp.first"
class_text TcpOpening = codes "tcp.opening"
class_text TcpEstablished = codes "tcp.established"
class_text TcpClosing = codes "tcp.closing"
class_text TcpFinWait = codes "tcp.finwait"
class_text TcpClosed = codes "tcp.closed"
class_text UdpFirst = codes "udp.first"
class_text UdpSingle = codes "udp.single"
class_text UdpMultiple = codes "udp.multiple"
class_text IcmpFirst = codes "icmp.first"
class_text IcmpError = codes "icmp.error"
class_text OtherFirst = codes "other.first"
class_text OtherSingle = codes "other.single"
class_text OtherMultiple = codes "other.multiple"

-- the word of a refusal
abbrev pub refusal_text : Refusal → List ℕ
refusal_text NoSuchFrame = codes "NoSuchFrame"
refusal_text NothingPending = codes "NothingPending"
refusal_text NoSuchState = codes "NoSuchState"
refusal_text LinkFull = codes "LinkFull"
refusal_text QueueFull = codes "QueueFull"
refusal_text ClockFull = codes "ClockFull"
refusal_text CountFull = codes "CountFull"
refusal_text NotSyncing = codes "NotSyncing"
refusal_text TooEarly = codes "TooEarly"
refusal_text NoMemory = codes "NoMemory"
