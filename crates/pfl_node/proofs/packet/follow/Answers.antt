use Rattle.pfl_receive.specs.desk.Nodes.{Node}
use Rattle.std.proofs.Common.{◌≡◌, ◌∙◌, arith, ap}
use Rattle.std.proofs.lemmas.Result.{err_from_is_err_and}
use Rattle.pfl_base.specs.Keys.{key}
use Rattle.pfl_track.specs.declared.tracked.Tracked.TheVariants.{Moved, OutOfWindow, Reused}
use Rattle.pfl_receive.proofs.ForCallers.table.{found-stands}
use Rattle.pfl_node.specs.Packets.{followed, tracked_at}
use Rattle.pfl_node.proofs.Fated.{found-replaces, tracks-at}
use Rattle.pfl_node.proofs.Points.{stops-last, ends, handles-tracked}
use Rattle.pfl_node.proofs.packet.follow.Goals as goal

pub accept-requires-clause-known : goal.accept-requires-clause-known
accept-requires-clause-known g c =
    let n = c.args.desk.now.node in
    let p = c.args.packet.now in
    let s = c.args.state.now in
    let moved : tracked_at n s p c.args.dir ≡ Moved c.in-Moved.state =
    tracks-at n s p c.args.dir _ _ _ (c.kernel.ensures.kernel ∙ ap (λ (k : Node). k.limits.kernel) c.parts-parts.ensures.parts) (c.clock.ensures.clock ∙ ap (λ (k : Node). k.clock) c.parts-parts.ensures.parts) c.track_by.ensures ∙ c.in-Moved.is in
    found-replaces n c.args.dir p s c.in-Moved.state c.requires.parts c.requires.packet c.requires.found moved

pub returns-in_err-fate-in-Moved : goal.returns-in_err-fate-in-Moved
returns-in_err-fate-in-Moved g c =
    let q = err_from_is_err_and c.from_residual.result c.from_residual.ensures.1 in
    let n = c.args.desk.now.node in
    let p = c.args.packet.now in
    let s = c.args.state.now in
    let moved : tracked_at n s p c.args.dir ≡ Moved c.in-Moved.state =
    tracks-at n s p c.args.dir _ _ _ (c.kernel.ensures.kernel ∙ ap (λ (k : Node). k.limits.kernel) c.parts-parts.ensures.parts) (c.clock.ensures.clock ∙ ap (λ (k : Node). k.clock) c.parts-parts.ensures.parts) c.track_by.ensures ∙ c.in-Moved.is in
    let tried = c.in_err-fate-in-Moved.ensures.done in
    record {
      done = rw q.1 (handles-tracked _ _ _ n c.args.dir p s _ _ moved
          (stops-last _ 6 _ _ (followed n c.args.dir p s (Moved c.in-Moved.state)) _ (omega arith) tried.full tried.writes));
    }

pub returns-in_ok-fate-in-Moved : goal.returns-in_ok-fate-in-Moved
returns-in_ok-fate-in-Moved g c =
    let n = c.args.desk.now.node in
    let p = c.args.packet.now in
    let s = c.args.state.now in
    let moved : tracked_at n s p c.args.dir ≡ Moved c.in-Moved.state =
    tracks-at n s p c.args.dir _ _ _ (c.kernel.ensures.kernel ∙ ap (λ (k : Node). k.limits.kernel) c.parts-parts.ensures.parts) (c.clock.ensures.clock ∙ ap (λ (k : Node). k.clock) c.parts-parts.ensures.parts) c.track_by.ensures ∙ c.in-Moved.is in
    let tried = c.in_ok-fate-in-Moved.ensures.done in
    record {
      done = handles-tracked _ _ _ n c.args.dir p s _ _ moved
          (ends _ _ 6 _ _ (followed n c.args.dir p s (Moved c.in-Moved.state))
          (omega arith) tried.step c.is_overcounted.ensures.room c.is_overcounted.ensures.counted tried.writes);
    }

pub returns-in-OutOfWindow : goal.returns-in-OutOfWindow
returns-in-OutOfWindow g c =
    let n = c.args.desk.now.node in
    let p = c.args.packet.now in
    let s = c.args.state.now in
    let out : tracked_at n s p c.args.dir ≡ OutOfWindow =
    tracks-at n s p c.args.dir _ _ _ (c.kernel.ensures.kernel ∙ ap (λ (k : Node). k.limits.kernel) c.parts-parts.ensures.parts) (c.clock.ensures.clock ∙ ap (λ (k : Node). k.clock) c.parts-parts.ensures.parts) c.track_by.ensures ∙ c.in-OutOfWindow.is in
    let e = c.drop_packet-fate.ensures in
    record {
      done = handles-tracked _ _ _ n c.args.dir p s _ _ out
          (ends _ _ 1 _ _ (followed n c.args.dir p s OutOfWindow)
          (omega arith) e.step c.is_overcounted-in-OutOfWindow.ensures.room c.is_overcounted-in-OutOfWindow.ensures.counted e.writes);
    }

pub reuse-requires-clause-stands : goal.reuse-requires-clause-stands
reuse-requires-clause-stands g c =
    let n = c.args.desk.now.node in
    found-stands n.states (key c.args.packet.now c.args.dir) c.args.dir c.args.state.now c.requires.parts.states c.requires.found

pub returns-in-Reused : goal.returns-in-Reused
returns-in-Reused g c =
    let n = c.args.desk.now.node in
    let p = c.args.packet.now in
    let s = c.args.state.now in
    let reused : tracked_at n s p c.args.dir ≡ Reused =
    tracks-at n s p c.args.dir _ _ _ (c.kernel.ensures.kernel ∙ ap (λ (k : Node). k.limits.kernel) c.parts-parts.ensures.parts) (c.clock.ensures.clock ∙ ap (λ (k : Node). k.clock) c.parts-parts.ensures.parts) c.track_by.ensures ∙ c.in-Reused.is in
    record { done = handles-tracked _ _ _ n c.args.dir p s _ _ reused c.reuse.ensures.done }
