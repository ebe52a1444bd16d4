-- Worked examples of the kernel's rule `icmp`, as far as we know it, computed.
use Rattle.std.specs.Prelude.{◌≡◌, true, Option, Some, refl}
use Rattle.pfl_base.specs.declared.class.Class.TheVariants.{IcmpError, IcmpFirst, UdpSingle}
use Rattle.pfl_base.specs.declared.direction.Dir.{Dir}
use Rattle.pfl_base.specs.declared.direction.Dir.TheVariants.{Inbound, Outbound}
use Rattle.pfl_base.specs.declared.kernel.Kernel.{Kernel}
use Rattle.pfl_base.specs.declared.packet.Packet.{Packet}
use Rattle.pfl_base.specs.declared.proto.Proto.TheVariants.{Icmp}
use Rattle.pfl_base.specs.Kernels.{profile}
use Rattle.pfl_track.specs.declared.state.State.{State}
use Rattle.pfl_track.specs.Rules.{started_by, tracked_by}
use Rattle.pfl_track.proofs.Worked.{Seen, begin, outside, seen, shown, udp}

abbrev icmp : Kernel
icmp = record profile { icmp = true }

-- an echo and its reply, whose identifier is both ports
abbrev echo : Dir → Packet
echo Outbound = record (udp Outbound) { proto = Icmp; dst = outside 1000 }
echo Inbound = record (udp Inbound) { proto = Icmp; src = outside 1000 }

-- the state that a packet makes
abbrev made : Kernel → Packet → State
made kernel p = started_by kernel (begin p)

-- and what an answer makes of it
abbrev answered : Kernel → (Dir → Packet) → Option Seen
answered kernel packet = shown (tracked_by kernel (made kernel (packet Outbound)) (packet Inbound) Inbound 0)

echo-profile : seen (made profile (echo Outbound)) ≡ (1, 0, IcmpFirst)
echo-profile = refl

reply-profile : answered profile echo ≡ Some (2, 1, IcmpError)
reply-profile = refl

-- by `icmp` neither end has a level, and the classes are those of the profile
echo-sent : seen (made icmp (echo Outbound)) ≡ (0, 0, IcmpFirst)
echo-sent = refl

reply-sent : answered icmp echo ≡ Some (0, 0, IcmpError)
reply-sent = refl

-- the levels of UDP are those of the profile
lookup-answered : answered icmp udp ≡ Some (2, 1, UdpSingle)
lookup-answered = refl
