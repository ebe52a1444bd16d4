-- Its calls in their order, from the last one on; what the parts are made of is not looked at.
use Rattle.std.proofs.Common.{◌∙◌, ap, sym}
use Rattle.std.specs.Prelude.{if◌then◌else◌}
use Rattle.pfl_track.specs.declared.tracked.Tracked.TheVariants.{Reused}
use Rattle.pfl_track.specs.Rules.{branch, passed, segment_of}
use Rattle.pfl_track.specs.Tracking.{receiver, sender}
use Rattle.pfl_track.proofs.tracking.track_tcp_by.Goals as goal

pub returns : goal.returns
returns c =
    let k = c.args.kernel in
    let s = c.args.state.now in
    let p = c.args.packet.now in
    let dir = c.args.dir in
    let now = c.args.now in
    c.passed.ensures
    ∙ ap (passed s c.segment_of-segment.result p dir now) c.branch-way.ensures
    ∙ ap (λ g. passed s g p dir now (branch k g p)) (c.segment_of-segment.ensures
    ∙ ap (λ from. segment_of k from c.receiver.result p) c.sender.ensures
    ∙ ap (λ to. segment_of k (sender s dir) to p) c.receiver.ensures)
    ∙ sym (ap (λ b. if b then Reused else passed s (segment_of k (sender s dir) (receiver s dir) p) p dir now (branch k (segment_of k (sender s dir) (receiver s dir) p) p))
    (sym c.is_reused.ensures ∙ c.if-is_reused.false))
