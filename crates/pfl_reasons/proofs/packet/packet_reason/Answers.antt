use Rattle.std.proofs.Common.{◌≡◌, None, Some, ◌∙◌, ap, refl, subst, sym}
use Rattle.std.specs.Result.{IfOk}
use Rattle.pfl_base.specs.declared.kernel.Kernel.{Kernel}
use Rattle.pfl_base.specs.Keys.{key}
use Rattle.pfl_track.specs.Rules.{tracked_by}
use Rattle.pfl_table.specs.Tables.{found, states_of}
use Rattle.pfl_world.proofs.ForCallers.table.{found-stands}
use Rattle.pfl_world.specs.desk.Nodes.{AreParts, Node}
use Rattle.pfl_world.specs.Worlds.{node_at}
use Rattle.pfl_reasons.specs.declared.packet_reason.PacketReason.{PacketReason}
use Rattle.pfl_reasons.specs.declared.packet_reason.PacketReason.TheVariants.{ByRules, OfState}
use Rattle.pfl_reasons.specs.Packets.{judged_reason, tested}
use Rattle.pfl_reasons.proofs.Finding.{found-is, of_closed, of_no_state, of_state}
use Rattle.pfl_reasons.proofs.packet.packet_reason.Goals as goal

pub judged-judged-requires : goal.judged-judged-requires
judged-judged-requires g c = record { packet = c.key.ensures.packet }

pub reuse_reason-requires : goal.reuse_reason-requires
reuse_reason-requires g c =
    let n = node_at c.args.world.now c.args.id in
    let p = c.args.packet.now in
    let given = c.copied.ensures ∙ c.found.ensures.state in
    let at : found n.states (key p c.args.dir) c.args.dir ≡ Some c.in-Some.state =
    sym (found-is n c.parts-node.result.now
    (states_of c.states.result.now) c.key.result c.args.dir p c.copied.result given c.states.ensures.states (c.parts-node.ensures.parts ∙ c.node.ensures.node)
    c.key.ensures.key) ∙ c.in-Some.is in
    let known = subst AreParts (c.parts-node.ensures.parts ∙ c.node.ensures.node) c.known.ensures.parts in
    record {
      packet = c.key.ensures.packet;
      stands = found-stands n.states (key p c.args.dir) c.args.dir c.in-Some.state known.states at;
    }

pub returns-in_default : goal.returns-in_default
returns-in_default g c =
    let n = node_at c.args.world.now c.args.id in
    let p = c.args.packet.now in
    let given = c.copied.ensures ∙ c.found.ensures.state in
    let none : found n.states (key p c.args.dir) c.args.dir ≡ None =
    sym (found-is n c.parts-node.result.now
    (states_of c.states.result.now) c.key.result c.args.dir p c.copied.result given c.states.ensures.states (c.parts-node.ensures.parts ∙ c.node.ensures.node)
    c.key.ensures.key) ∙ c.in_default.is in
    let made = c.judged-judged.ensures ∙ ap (λ (m : Node). judged_reason m c.args.dir p) (c.parts-node.ensures.parts ∙ c.node.ensures.node) in
    record { reason = ap (ByRules None) made ∙ sym (of_no_state n c.args.dir p none); still = refl }

pub returns-in-Reused : goal.returns-in-Reused
returns-in-Reused g c =
    let n = node_at c.args.world.now c.args.id in
    let p = c.args.packet.now in
    let given = c.copied.ensures ∙ c.found.ensures.state in
    let at : found n.states (key p c.args.dir) c.args.dir ≡ Some c.in-Some.state =
    sym (found-is n c.parts-node.result.now
    (states_of c.states.result.now) c.key.result c.args.dir p c.copied.result given c.states.ensures.states (c.parts-node.ensures.parts ∙ c.node.ensures.node)
    c.key.ensures.key) ∙ c.in-Some.is in
    let kernel = c.kernel-kernel.ensures.kernel ∙ ap (λ (m : Node). m.limits.kernel) (c.parts-node.ensures.parts ∙ c.node.ensures.node) in
    let clock = c.clock.ensures.clock ∙ ap (λ (m : Node). m.clock) (c.parts-node.ensures.parts ∙ c.node.ensures.node) in
    let moved : tracked_by n.limits.kernel c.in-Some.state p c.args.dir n.clock ≡ c.track_by.result =
    sym (c.track_by.ensures ∙ λ i. tracked_by (kernel i) c.in-Some.state p c.args.dir (clock i)) in
    record {
      reason = subst (λ (why : PacketReason). IfOk c.reuse_reason.result (λ r. r ≡ why))
          (sym (of_closed n c.args.dir p c.in-Some.state at c.track_by.result moved c.in-Reused.is)) c.reuse_reason.ensures.reason;
      still = c.reuse_reason.ensures.still;
    }

pub returns-in_default-track_by : goal.returns-in_default-track_by
returns-in_default-track_by g c =
    let n = node_at c.args.world.now c.args.id in
    let p = c.args.packet.now in
    let given = c.copied.ensures ∙ c.found.ensures.state in
    let at : found n.states (key p c.args.dir) c.args.dir ≡ Some c.in-Some.state =
    sym (found-is n c.parts-node.result.now
    (states_of c.states.result.now) c.key.result c.args.dir p c.copied.result given c.states.ensures.states (c.parts-node.ensures.parts ∙ c.node.ensures.node)
    c.key.ensures.key) ∙ c.in-Some.is in
    let kernel = c.kernel-kernel.ensures.kernel ∙ ap (λ (m : Node). m.limits.kernel) (c.parts-node.ensures.parts ∙ c.node.ensures.node) in
    let clock = c.clock.ensures.clock ∙ ap (λ (m : Node). m.clock) (c.parts-node.ensures.parts ∙ c.node.ensures.node) in
    let moved : tracked_by n.limits.kernel c.in-Some.state p c.args.dir n.clock ≡ c.track_by.result =
    sym (c.track_by.ensures ∙ λ i. tracked_by (kernel i) c.in-Some.state p c.args.dir (clock i)) in
    let judged = c.tested.ensures ∙ ap (λ (k : Kernel). tested k c.in-Some.state c.args.dir p) kernel in
    record {
      reason = (λ i. OfState (c.name.ensures i) (judged i))
          ∙ sym (of_state n c.args.dir p c.in-Some.state at c.track_by.result moved c.in_default-track_by.not-Reused);
      still = refl;
    }
