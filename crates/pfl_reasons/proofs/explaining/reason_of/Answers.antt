use Rattle.std.proofs.Common.{refl}
use Rattle.pfl_reasons.proofs.Plain.{as_same, at_node, of_frame, plain_of}
use Rattle.pfl_reasons.proofs.explaining.reason_of.Goals as goal

pub returns-in-At : goal.returns-in-At
returns-in-At g c = record {
  explained = as_same c.reason_at.result _ _
      (at_node c.args.world.now c.args.event.now c.in-At.node c.in-At.event c.in-At.is) c.reason_at.ensures.explained;
  still =
      c.reason_at.ensures.still;
}

pub returns-in-Of : goal.returns-in-Of
returns-in-Of g c = record {
  explained = as_same c.reason_of_frame.result _ _
      (of_frame c.args.world.now c.args.event.now c.in-Of.ticket c.in-Of.event c.in-Of.is) c.reason_of_frame.ensures.explained;
  still =
      c.reason_of_frame.ensures.still;
}

pub returns-in_default : goal.returns-in_default
returns-in_default g c = record { explained = plain_of c.args.world.now c.args.event.now c.in_default.not-At c.in_default.not-Of; still = refl }
