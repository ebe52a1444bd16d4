use Rattle.std.specs.Prelude.{IsTrue}
use Rattle.std.proofs.Common.{subst}
use Rattle.pfl_timeline.proofs.ForCallers.{listing-keeps}
use Rattle.pfl_timeline.proofs.ForCallers.world.{where_err}
use Rattle.pfl_session.specs.inner.Fitting.{is_kept_whole}
use Rattle.pfl_session.proofs.KeptEntries.{whole-keeps}
use Rattle.pfl_session.proofs.Telling.{room-is-enough}
use Rattle.pfl_session.proofs.execution.execute.Goals as goal

pub copy_reply-requires-clause-enough : goal.copy_reply-requires-clause-enough
copy_reply-requires-clause-enough g c = room-is-enough _ _ _ _ _ _ c.in_ok-reply.ensures.step c.most_places.ensures c.in_ok-room.ensures.capacity

pub returns-in_err-kept-clause-unchanged : goal.returns-in_err-kept-clause-unchanged
returns-in_err-kept-clause-unchanged g c =
    where_err c.from_residual-in_err-kept.result (listing-keeps _ _ _ _ c.in_ok-reply.ensures.step c.in_err-kept.ensures.memory)

pub returns-in_err-entry-clause-unchanged : goal.returns-in_err-entry-clause-unchanged
returns-in_err-entry-clause-unchanged g c =
    let whole = subst (λ r. IsTrue (is_kept_whole c.args.command.now r)) c.in_ok-kept.ensures.same c.in_err-entry.ensures.memory in
    where_err c.from_residual-in_err-entry.result (whole-keeps _ _ _ _ c.known.ensures.timeline c.in_ok-reply.ensures.step whole)
