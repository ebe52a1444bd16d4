use Rattle.std.proofs.Common.{refl, ◌∙◌, ap, sym}
use Rattle.pfl_world.specs.Worlds.{node_at}
use Rattle.pfl_reasons.specs.Explaining.{Packet as OfPacket, explained_at}
use Rattle.pfl_reasons.proofs.Plain.{as_same, plain_at}
use Rattle.pfl_reasons.proofs.explaining.reason_at.Goals as goal

pub returns-in-Purge : goal.returns-in-Purge
returns-in-Purge g c = record {
  explained = as_same c.purge_reason.result _ _
      (λ i. explained_at ((c.parts.ensures.parts ∙ c.node.ensures.node) i) (sym c.in-Purge.is i)) c.purge_reason.ensures.explained;
  still = refl;
}

pub returns-in_default : goal.returns-in_default
returns-in_default g c = record {
  explained = plain_at
      (node_at c.args.world.now c.args.node) c.args.event.now c.in_default.not-Packet c.in_default.not-Purge;
  still = refl;
}

pub returns-in_ok-reason-in-Packet : goal.returns-in_ok-reason-in-Packet
returns-in_ok-reason-in-Packet g c = record {
  explained = ap OfPacket c.in_ok-reason-in-Packet.ensures.reason ∙ ap (explained_at (node_at c.args.world.now c.args.node)) (sym c.in-Packet.is);
  still = c.packet_reason.ensures.still;
}
