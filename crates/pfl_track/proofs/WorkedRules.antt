-- Worked examples of the kernel's rules, as far as we know them, computed; the numbers were reckoned by hand.
use Rattle.std.specs.Prelude.{◌≡◌, ℕ, true, Option, Some, None, refl}
use Rattle.pfl_base.specs.declared.class.Class.{Class}
use Rattle.pfl_base.specs.declared.class.Class.TheVariants.{TcpFirst, TcpClosing, TcpClosed}
use Rattle.pfl_base.specs.declared.direction.Dir.{Dir}
use Rattle.pfl_base.specs.declared.direction.Dir.TheVariants.{Inbound, Outbound}
use Rattle.pfl_base.specs.declared.packet.Packet.{Packet}
use Rattle.pfl_base.specs.Kernels.{profile}
use Rattle.pfl_track.specs.declared.judgement.Judgement.{Judgement}
use Rattle.pfl_track.specs.declared.judgement.LooseTest.{LooseTest}
use Rattle.pfl_track.specs.declared.judgement.ResetTest.{ResetTest}
use Rattle.pfl_track.specs.declared.peer.Peer.{Peer}
use Rattle.pfl_track.specs.declared.branch.Branch.{Branch}
use Rattle.pfl_track.specs.declared.branch.Branch.TheVariants.{Loose}
use Rattle.pfl_base.specs.declared.kernel.Kernel.{Kernel}
use Rattle.pfl_track.specs.declared.tracked.Tracked.{Tracked}
use Rattle.pfl_track.specs.declared.tracked.Tracked.TheVariants.{Moved, OutOfWindow, Reused}
use Rattle.pfl_track.specs.Judging.{branch_of, judged, window_test_by}
use Rattle.pfl_track.specs.Rules.{tracked_by}
use Rattle.pfl_track.proofs.Worked.{begin, closed, ends, opened, tcp}

abbrev window : Kernel
window = record profile { window = true }

abbrev reset : Kernel
reset = record profile { reset = true }

abbrev loose : Kernel
loose = record profile { loose = true }

-- pf before 13.2-RELEASE-p7, and after it
abbrev earlier : Kernel
earlier = record profile { window = true; loose = true }

abbrev later : Kernel
later = record profile { window = true; loose = true; reset = true }

-- a later packet, at 5000 milliseconds
abbrev by : Kernel → Tracked → Dir → Packet → Tracked
by kernel (Moved s) dir p = tracked_by kernel s p dir 5000
by kernel OutOfWindow dir p = OutOfWindow
by kernel Reused dir p = Reused

abbrev with_data : ℕ → Packet → Packet
with_data n p = record p { len = n }

abbrev end : ℕ → ℕ → ℕ → ℕ → Peer
end level window lo hi = record { level = level; scale = None; window = window; lo = lo; hi = hi }

-- when it was last used, and its class
abbrev use_of : Tracked → Option (ℕ × Class)
use_of (Moved s) = Some (s.last, s.class)
use_of OutOfWindow = None
use_of Reused = None

abbrev tests_of : Kernel → Tracked → Dir → Packet → Option Judgement
tests_of kernel (Moved s) dir p = Some (window_test_by kernel s dir p)
tests_of kernel OutOfWindow dir p = None
tests_of kernel Reused dir p = None

abbrev way_of : Option Judgement → Option Branch
way_of None = None
way_of (Some j) = branch_of j

abbrev reset_of : Option Judgement → Option ResetTest
reset_of None = None
reset_of (Some j) = j.reset

abbrev loose_of : Option Judgement → Option LooseTest
loose_of None = None
loose_of (Some j) = j.loose

-- an acknowledgement without data whose own number is far off passes by what it acknowledges, and moves nothing; with data it does not
abbrev far_ack : Packet
far_ack = tcp Inbound 16 5000 101 2000

far-profile : by profile opened Inbound far_ack ≡ OutOfWindow
far-profile = refl

far-window : ends (by window opened Inbound far_ack) ≡ Some (end 4 1000 101 2101, end 4 2000 501 1501)
far-window = refl

far-others : by (record profile { loose = true; reset = true }) opened Inbound far_ack ≡ OutOfWindow
far-others = refl

far-data : by window opened Inbound (with_data 100 far_ack) ≡ OutOfWindow
far-data = refl

-- a keepalive after a failover: this node knows nothing of 5000 bytes of the server's. The server asks, with the number before its next one,
-- and the client's answer makes the window right again
abbrev asked : Tracked
asked = by window opened Inbound (tcp Inbound 16 5500 101 2000)

abbrev answered : Tracked
answered = by window asked Outbound (tcp Outbound 16 101 5501 1000)

keepalive-profile : by profile opened Inbound (tcp Inbound 16 5500 101 2000) ≡ OutOfWindow
keepalive-profile = refl

keepalive-asked : ends asked ≡ Some (end 4 1000 101 2101, end 4 2000 501 1501)
keepalive-asked = refl

keepalive-answered : ends answered ≡ Some (end 4 1000 101 2101, end 4 2000 501 6501)
keepalive-answered = refl

keepalive-data : ends (by window answered Inbound (with_data 1000 (tcp Inbound 16 5501 101 2000))) ≡ Some (end 4 1000 101 2101, end 4 2000 6501 6501)
keepalive-data = refl

-- a RST two off passes by the profile, and by `reset` it does not; one beside the number does
reset-profile : ends (by profile opened Inbound (tcp Inbound 4 503 0 0)) ≡ Some (end 10 1000 101 2101, end 10 2000 503 1501)
reset-profile = refl

reset-two-off : by reset opened Inbound (tcp Inbound 4 503 0 0) ≡ OutOfWindow
reset-two-off = refl

reset-two-before : by reset opened Inbound (tcp Inbound 4 499 0 0) ≡ OutOfWindow
reset-two-before = refl

reset-beside : ends (by reset opened Inbound (tcp Inbound 4 502 0 0)) ≡ Some (end 10 1000 101 2101, end 10 2000 502 1501)
reset-beside = refl

reset-before : ends (by reset opened Inbound (tcp Inbound 4 500 0 0)) ≡ Some (end 10 1000 101 2101, end 10 2000 501 1501)
reset-before = refl

reset-tested : reset_of (tests_of reset opened Inbound (tcp Inbound 4 503 0 0)) ≡ Some (record { number = 503; least = 500; most = 502; missed = Some 1 })
unfolding judged
reset-tested = refl

-- a forged RST whose number is nowhere near passes by `window` alone, and not with `reset`
reset-anywhere : ends (by earlier opened Inbound (tcp Inbound 4 3000000000 0 0)) ≡ Some (end 10 1000 101 2101, end 10 2000 501 1501)
reset-anywhere = refl

reset-nowhere : by later opened Inbound (tcp Inbound 4 3000000000 0 0) ≡ OutOfWindow
reset-nowhere = refl

-- RST and ACK with the number 0, which is far from what the client sent
abbrev high : Tracked
high = by profile (by profile (Moved (begin (tcp Outbound 2 1000100 0 1000))) Inbound (tcp Inbound 18 500 1000101 2000)) Outbound
    (tcp Outbound 16 1000101 501 1000)

zero-profile : by profile high Inbound (tcp Inbound 20 501 0 0) ≡ OutOfWindow
zero-profile = refl

zero-window : ends (by later high Inbound (tcp Inbound 20 501 0 0)) ≡ Some (end 10 1000 1000101 1002101, end 10 2000 501 1501)
zero-window = refl

-- a late FIN/ACK, with more data than was allowed: the client has its FIN acknowledged. By `loose` it lifts the server's end, and renews
-- nothing: the class is that of before
abbrev half : Tracked
half = by profile (by profile opened Outbound (tcp Outbound 17 101 501 1000)) Inbound (tcp Inbound 16 501 102 2000)

abbrev late_fin : Packet
late_fin = with_data 3000 (tcp Inbound 17 501 102 2000)

half-closed : ends half ≡ Some (end 9 1000 102 2102, end 4 2000 501 1501)
half-closed = refl

late-profile : by profile half Inbound late_fin ≡ OutOfWindow
late-profile = refl

late-loose : ends (by loose half Inbound late_fin) ≡ Some (end 9 1000 102 2102, end 7 2000 3502 1501)
late-loose = refl

late-way : way_of (tests_of loose half Inbound late_fin) ≡ Some Loose
unfolding judged
late-way = refl

late-tested : loose_of (tests_of loose half Inbound late_fin) ≡ Some (record {
  right = record { number = 3502; bound = 68536; missed = None };
  left = record { number = 501; bound = 4294900762; missed = None };
})
unfolding judged
late-tested = refl

-- the same of a connection that both have closed: used at 0, where the FIN came at 5000
late-closed : ends (by loose closed Inbound (with_data 3000 (tcp Inbound 17 502 102 2000))) ≡ Some (end 9 1000 102 2102, end 9 2000 3503 1502)
late-closed = refl

late-use : use_of (by loose closed Inbound (with_data 3000 (tcp Inbound 17 502 102 2000))) ≡ Some (0, TcpClosed)
late-use = refl

-- neither SYN nor ACK lifts an end that way, and RST both to 10 under the class of before
loose-reset : use_of (by loose half Inbound (with_data 3000 (tcp Inbound 4 501 0 0))) ≡ Some (5000, TcpClosing)
loose-reset = refl

loose-reset-ends : ends (by loose half Inbound (with_data 3000 (tcp Inbound 4 501 0 0))) ≡ Some (end 10 1000 102 2102, end 10 2000 3501 1501)
loose-reset-ends = refl

-- not further than 67035, and not where both ends are in the middle
loose-far : by loose half Inbound (with_data 3000 (tcp Inbound 17 65537 102 2000)) ≡ OutOfWindow
loose-far = refl

loose-middle : by loose opened Inbound late_fin ≡ OutOfWindow
loose-middle = refl

-- the first packet behind a failover between the SYN and its answer: the server was never heard here, and the client sends data
abbrev client_data : Packet
client_data = with_data 400 (tcp Outbound 24 101 501 1000)

first-profile : by profile (Moved (begin (tcp Outbound 2 100 0 1000))) Outbound client_data ≡ OutOfWindow
first-profile = refl

first-loose : ends (by loose (Moved (begin (tcp Outbound 2 100 0 1000))) Outbound client_data) ≡ Some (end 2 1000 501 102, end 0 0 0 0)
first-loose = refl

-- with `window` the server's end is allowed what is offered, beyond the number 0, until it is heard; then it begins
abbrev first : Tracked
first = by later (Moved (begin (tcp Outbound 2 100 0 1000))) Outbound client_data

first-later : ends first ≡ Some (end 2 1000 501 102, end 0 0 0 1000)
first-later = refl

first-use : use_of first ≡ Some (0, TcpFirst)
first-use = refl

first-answered : ends (by later first Inbound (with_data 100 (tcp Inbound 16 501 501 2000))) ≡ Some (end 4 1000 501 2501, end 2 2000 601 1601)
first-answered = refl

-- an end that was never heard begins by `window` whatever its level: the client's RST has closed both, and the server's SYN+ACK comes after all
abbrev given_up : Kernel → Tracked
given_up kernel = by kernel (Moved (begin (tcp Outbound 2 100 0 1000))) Outbound (tcp Outbound 4 101 0 0)

refused-profile : by profile (given_up profile) Inbound (tcp Inbound 18 500 101 2000) ≡ OutOfWindow
refused-profile = refl

refused-late : ends (by window (given_up window) Inbound (tcp Inbound 18 500 101 2000)) ≡ Some (end 10 1000 100 2101, end 10 2000 501 1501)
refused-late = refl

-- by `window` a SYN that is sent again allows the server's end what is offered beyond the number 0; where its first number is behind that,
-- as numbers wrap, the allowance stays, and so its right edge stands open
abbrev again : Tracked
again = by window (Moved (begin (tcp Outbound 2 100 0 1000))) Outbound (tcp Outbound 2 100 0 1000)

again-sent : ends again ≡ Some (end 2 1000 101 102, end 0 0 0 1000)
again-sent = refl

again-answered : ends (by window again Inbound (tcp Inbound 18 3000000000 101 2000)) ≡ Some (end 4 1000 101 2101, end 2 2000 3000000001 1000)
again-answered = refl
