use Rattle.std.proofs.Common.{refl, ap, sym}
use Rattle.pfl_reasons.specs.Explaining.{explained_of_frame}
use Rattle.pfl_reasons.proofs.Plain.{as_same, plain_of_frame}
use Rattle.pfl_reasons.proofs.explaining.reason_of_frame.Goals as goal

pub returns-in-Deliver : goal.returns-in-Deliver
returns-in-Deliver g c = record {
  explained = as_same c.reason_of_delivery.result _ _
      (ap (explained_of_frame c.args.world.now c.args.ticket) (sym c.in-Deliver.is)) c.reason_of_delivery.ensures.explained;
  still =
      c.reason_of_delivery.ensures.still;
}

pub returns-in_default : goal.returns-in_default
returns-in_default g c = record { explained = plain_of_frame c.args.world.now c.args.ticket c.args.event.now c.in_default.not-Deliver; still = refl }
