-- The rule `scale` bears on the SYN that answers an offer alone, and what it keeps covers what was offered.
use Rattle.std.specs.Prelude.{◌≡◌, ◌^◌, Bool, true, false, ◌&&◌, is_some, is_none, refl}
use Rattle.std.proofs.Common.{cond, ap}
use Rattle.std.proofs.lemmas.Grind.{div_ceil_times}
use Rattle.std.proofs.lemmas.Nat.{pow_pos}
use Rattle.pfl_base.specs.declared.kernel.Kernel.{Kernel}
use Rattle.pfl_base.specs.Packets.{is_request, is_tcp, syn}
use Rattle.pfl_track.specs.declared.peer.Peer.{Peer}
use Rattle.pfl_track.specs.declared.segment.Segment.{Segment}
use Rattle.pfl_track.specs.declared.tracked.Tracked.{Tracked}
use Rattle.pfl_track.specs.declared.tracked.Tracked.TheVariants.{Moved, Reused}
use Rattle.pfl_track.specs.RuleLaws.{ScaleAnswersOffers, UnitsCover}
use Rattle.pfl_track.specs.Rules.{branch, eased, is_to_begin, passed, plain, segment_of, tracked_other_by, tracked_tcp_by, without_scale}
use Rattle.pfl_track.specs.Tracking.{is_closed, receiver, sender}

never : (b x y : Bool) → (x && y) ≡ false → (b && x && y) ≡ false
never true x y e = e
never false x y e = refl

pub answers-offers : ScaleAnswersOffers
answers-offers kernel s p dir now none = by-proto (is_tcp p.proto)
  where
    from : Peer
    from = sender s dir

    to : Peer
    to = receiver s dir

    with_it : Kernel
    with_it = record kernel { scale = true }

    without : Kernel
    without = record kernel { scale = false }

    -- the packet as it is judged, by whether it answers an offer
    judged : Bool → Segment
    judged answers =
        let other = cond (answers && is_none p.scale) (without_scale to) to in
        cond kernel.window (eased (answers && is_some p.scale) from other p) (plain (answers && is_some p.scale) from other p)

    segments : segment_of with_it from to p ≡ segment_of without from to p
    segments = ap judged (never (is_to_begin kernel from) (syn p) _ none)

    by-way : Segment → Tracked
    by-way g = cond (is_request p && is_closed s) Reused (passed s g p dir now (branch kernel g p))

    by-tcp : tracked_tcp_by with_it s p dir now ≡ tracked_tcp_by without s p dir now
    by-tcp = ap by-way segments

    by-proto : (b : Bool) → cond b (tracked_tcp_by with_it s p dir now) (Moved (tracked_other_by kernel s p dir now))
        ≡ cond b (tracked_tcp_by without s p dir now) (Moved (tracked_other_by kernel s p dir now))
    by-proto true = by-tcp
    by-proto false = refl

pub units-cover : UnitsCover
units-cover scale window = div_ceil_times window (2 ^ scale) (pow_pos scale)
