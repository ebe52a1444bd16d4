-- Worked examples of the rule `scale`, computed; the numbers were reckoned by hand. A client offers a window of 1000 and the scale 7, the
-- server 2000 and the scale 2: in units of theirs these are 8 and 500.
use Rattle.std.specs.Prelude.{◌≡◌, ℕ, true, Option, Some, None, refl}
use Rattle.pfl_base.specs.declared.direction.Dir.{Dir}
use Rattle.pfl_base.specs.declared.direction.Dir.TheVariants.{Inbound, Outbound}
use Rattle.pfl_base.specs.declared.kernel.Kernel.{Kernel}
use Rattle.pfl_base.specs.declared.packet.Packet.{Packet}
use Rattle.pfl_base.specs.Kernels.{profile}
use Rattle.pfl_track.specs.declared.peer.Peer.{Peer}
use Rattle.pfl_track.specs.declared.tracked.Tracked.{Tracked}
use Rattle.pfl_track.specs.declared.tracked.Tracked.TheVariants.{Moved, OutOfWindow, Reused}
use Rattle.pfl_track.specs.Rules.{in_units, started_by, tracked_by}
use Rattle.pfl_track.proofs.Worked.{begin, ends, tcp}

abbrev scale : Kernel
scale = record profile { scale = true }

abbrev both : Kernel
both = record profile { scale = true; window = true }

abbrev offers : ℕ → Packet → Packet
offers shift p = record p { scale = Some shift }

abbrev with_data : ℕ → Packet → Packet
with_data n p = record p { len = n }

abbrev end : ℕ → Option ℕ → ℕ → ℕ → ℕ → Peer
end level shift window lo hi = record { level = level; scale = shift; window = window; lo = lo; hi = hi }

abbrev by : Kernel → Tracked → Dir → Packet → Tracked
by kernel (Moved s) dir p = tracked_by kernel s p dir 0
by kernel OutOfWindow dir p = OutOfWindow
by kernel Reused dir p = Reused

-- 1000 and 1024 are eight units of 128, and 1025 is nine
units-left : in_units (Some 7) 1000 ≡ 8
units-left = refl

units-whole : in_units (Some 7) 1024 ≡ 8
units-whole = refl

units-one_more : in_units (Some 7) 1025 ≡ 9
units-one_more = refl

units-of_one : in_units (Some 0) 1000 ≡ 1000
units-of_one = refl

units-none : in_units None 1000 ≡ 1000
units-none = refl

-- the SYN, its answer, and the acknowledgement of that
abbrev asked : Packet
asked = offers 7 (tcp Outbound 2 100 0 1000)

abbrev started : Kernel → Tracked
started kernel = Moved (started_by kernel (begin asked))

abbrev answered : Kernel → Tracked
answered kernel = by kernel (started kernel) Inbound (offers 2 (tcp Inbound 18 500 101 2000))

abbrev opened : Kernel → Tracked
opened kernel = by kernel (answered kernel) Outbound (tcp Outbound 16 101 501 8)

started-profile : ends (started profile) ≡ Some (end 2 (Some 7) 1000 100 102, end 0 None 0 0 0)
started-profile = refl

started-scale : ends (started scale) ≡ Some (end 2 (Some 7) 8 100 102, end 0 None 0 0 0)
started-scale = refl

answered-profile : ends (answered profile) ≡ Some (end 4 (Some 7) 1000 100 2101, end 2 (Some 2) 2000 501 1501)
answered-profile = refl

-- the server may send 8 units of 128, and the client 500 of 4
answered-scale : ends (answered scale) ≡ Some (end 4 (Some 7) 8 100 2101, end 2 (Some 2) 500 501 1525)
answered-scale = refl

answered-both : ends (answered both) ≡ Some (end 4 (Some 7) 8 100 2101, end 2 (Some 2) 500 501 1525)
answered-both = refl

opened-profile : ends (opened profile) ≡ Some (end 4 (Some 7) 1000 101 2101, end 4 (Some 2) 2000 501 1525)
opened-profile = refl

opened-scale : ends (opened scale) ≡ Some (end 4 (Some 7) 8 101 2101, end 4 (Some 2) 500 501 1525)
opened-scale = refl

-- an old segment of the server's, 2000 bytes back: by the profile the left edge is 1000 units of 128 back, by `scale` 1024 bytes
abbrev old : Packet
old = with_data 100 (tcp Inbound 16 4294965797 101 500)

old-profile : ends (by profile (opened profile) Inbound old) ≡ Some (end 4 (Some 7) 1000 101 2101, end 4 (Some 2) 2000 501 1525)
old-profile = refl

old-scale : by scale (opened scale) Inbound old ≡ OutOfWindow
old-scale = refl

-- an answer that offers none: the client's window is 1024 from now on, as it is
unanswered : ends (by scale (started scale) Inbound (tcp Inbound 18 500 101 2000)) ≡ Some (end 4 None 1024 100 2101, end 2 None 2000 501 1525)
unanswered = refl

unanswered-profile : ends (by profile (started profile) Inbound (tcp Inbound 18 500 101 2000)) ≡ Some
    (end 4 (Some 7) 1000 100 2101, end 2 None 2000 501 1501)
unanswered-profile = refl

-- 65535 is 512 units of 128, which are 65536: in 16 bits 65535
abbrev wide : Tracked
wide = Moved (started_by scale (begin (offers 7 (tcp Outbound 2 100 0 65535))))

wide-started : ends wide ≡ Some (end 2 (Some 7) 512 100 102, end 0 None 0 0 0)
wide-started = refl

wide-unanswered : ends (by scale wide Inbound (tcp Inbound 18 500 101 2000)) ≡ Some (end 4 None 65535 100 2101, end 2 None 2000 501 66036)
wide-unanswered = refl

-- a SYN that is sent again is no first packet: its window counts as it is
again : ends (by scale (started scale) Outbound asked) ≡ Some (end 2 (Some 7) 1000 101 102, end 0 None 0 0 0)
again = refl
