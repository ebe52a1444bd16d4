-- The levels of an end, and the classes that follow from them (this project's profile, after pf.c: the levels of TCP have the
-- names of the states of RFC 9293, 3.3.2, and are numbered from CLOSED 0 to TIME-WAIT 10; those of other protocols are 0, 1 and 2).
use Rattle.std.specs.Prelude.{ℕ, Bool, ◌&&◌, ◌||◌, ◌==◌, nat_lt, nat_le, max, if◌then◌else◌}
use Rattle.pfl_base.specs.declared.packet.Packet.{Packet}
use Rattle.pfl_base.specs.declared.proto.Proto.{Proto}
use Rattle.pfl_base.specs.declared.proto.Proto.TheVariants.{Tcp, Udp, Icmp, Other}
use Rattle.pfl_base.specs.declared.class.Class.{Class}
use Rattle.pfl_base.specs.declared.class.Class.TheVariants.{TcpFirst, TcpOpening, TcpEstablished, TcpClosing, TcpFinWait, TcpClosed, UdpFirst}
use Rattle.pfl_base.specs.declared.class.Class.TheVariants.{UdpSingle, UdpMultiple, IcmpFirst, IcmpError, OtherFirst, OtherSingle, OtherMultiple}
use Rattle.pfl_base.specs.Packets.{syn, fin, rst, ack}

-- SYN-SENT (RFC 9293)
abbrev pub syn_sent : ℕ
syn_sent = 2

-- ESTABLISHED (RFC 9293)
abbrev pub established : ℕ
established = 4

-- CLOSING (RFC 9293)
abbrev pub closing : ℕ
closing = 7

-- FIN-WAIT-2 (RFC 9293)
abbrev pub fin_wait_2 : ℕ
fin_wait_2 = 9

-- TIME-WAIT (RFC 9293)
abbrev pub time_wait : ℕ
time_wait = 10

-- UDP and other protocols: the end was heard (pf.c)
abbrev pub single : ℕ
single = 1

-- the end was heard, and answered since (pf.c)
abbrev pub multiple : ℕ
multiple = 2

-- what an acknowledgement makes of the other end's level (this project's profile, after pf.c; not the machine of RFC 9293)
abbrev pub acknowledged : ℕ → ℕ
acknowledged level = if level == syn_sent then established else if level == closing then fin_wait_2 else level

-- the sender's level after its packet
abbrev pub sender_level : Packet → ℕ → ℕ
sender_level p level =
    let with_syn = if syn p then max level syn_sent else level in
    let with_fin = if fin p then max with_syn closing else with_syn in
    if rst p then time_wait else with_fin

-- the other end's level after it
abbrev pub receiver_level : Packet → ℕ → ℕ
receiver_level p level = if rst p then time_wait else if ack p then acknowledged level else level

-- the class of a TCP connection (this project's profile, after pf.c): the first line that applies
abbrev pub tcp_class : ℕ → ℕ → Class
tcp_class src dst =
    if nat_le fin_wait_2 src && nat_le fin_wait_2 dst then TcpClosed else
    if nat_le closing src && nat_le closing dst then TcpFinWait else
    if nat_lt src established || nat_lt dst established then TcpOpening else
    if nat_le closing src || nat_le closing dst then TcpClosing else TcpEstablished

-- each end was heard, and answered since
abbrev pub both_multiple : ℕ → ℕ → Bool
both_multiple src dst = (src == multiple) && (dst == multiple)

-- the class at creation (pf.conf(5))
abbrev pub first_class : Proto → Class
first_class Tcp = TcpFirst
first_class Udp = UdpFirst
first_class Icmp = IcmpFirst
first_class (Other n) = OtherFirst

-- the class after a later packet, from both levels; ICMP has icmp.error after any (this project's profile, in the words of pf.conf(5))
abbrev pub class_after : Proto → ℕ → ℕ → Class
class_after Tcp src dst = tcp_class src dst
class_after Udp src dst = if both_multiple src dst then UdpMultiple else UdpSingle
class_after Icmp src dst = IcmpError
class_after (Other n) src dst = if both_multiple src dst then OtherMultiple else OtherSingle
