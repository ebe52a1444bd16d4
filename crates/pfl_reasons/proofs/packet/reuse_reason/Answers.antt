use Rattle.std.proofs.Common.{Some, ◌∙◌, ap}
use Rattle.pfl_world.specs.desk.Nodes.{Node}
use Rattle.pfl_reasons.specs.declared.packet_reason.PacketReason.TheVariants.{ByRules}
use Rattle.pfl_reasons.specs.Packets.{judged_reason}
use Rattle.pfl_reasons.proofs.Killing.{killed-node}
use Rattle.pfl_reasons.proofs.packet.reuse_reason.Goals as goal

pub judged-judged-requires : goal.judged-judged-requires
judged-judged-requires g c = record { packet = c.requires.packet }

pub revert-requires : goal.revert-requires
revert-requires g c = record { fits = c.in-Ok.ensures.fits }

pub returns : goal.returns
returns g c =
    let w = c.args.world.now in
    let gone = killed-node w c.args.id c.name-name.result c.args.closed.now _ c.requires.stands c.name-name.ensures c.in-Ok.ensures.step in
    let made = c.judged-judged.ensures ∙ ap (λ (n : Node). judged_reason n c.args.dir c.args.packet.now) (c.parts.ensures.parts ∙ (c.node.ensures.node ∙ gone)) in
    record {
      reason = λ i. ByRules (Some (c.name-name.ensures i)) (made i);
      still = c.revert.ensures.reverted ∙ c.in-Ok.ensures.back;
    }
