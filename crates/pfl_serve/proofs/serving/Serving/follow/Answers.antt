use Rattle.std.proofs.Common.{◌∙◌, refl, arith}
use Rattle.std.proofs.lemmas.Result.{err_from_is_err_and}
use Rattle.pfl_session.proofs.ForCallers.{goes-on}
use Rattle.pfl_serve.specs.Seats.{site_of}
use Rattle.pfl_serve.proofs.Entries.{breaks-then, writes-then}
use Rattle.pfl_serve.proofs.serving.Serving.follow.Goals as goal

pub returns-in_err-sent-clause-breaks : goal.returns-in_err-sent-clause-breaks
returns-in_err-sent-clause-breaks g c =
    let p = err_from_is_err_and c.from_residual.result c.from_residual.ensures.1 in
    rw (p.1, p.2) c.in_err-sent.ensures.breaks

pub returns-in_err-sent-2-clause-breaks : goal.returns-in_err-sent-2-clause-breaks
returns-in_err-sent-2-clause-breaks g c =
    let p = err_from_is_err_and c.from_residual-in_err-sent-2.result c.from_residual-in_err-sent-2.ensures.1 in
    rw (p.1, p.2) (breaks-then (site_of g.J.Which) _ _ _ _ _ _ _ _ c.loop.invariant.sent _ c.in_err-sent-2.ensures.breaks)

pub loop-init : goal.loop-init
loop-init g c = record {
  lab = c.send_standing.ensures.lab;
  goes_on = c.send_standing.ensures.goes_on;
  reader = refl;
  all = c.in_ok-sent.ensures.all;
  sent = c.in_ok-sent.ensures.whole;
  stays = c.in_ok-sent.ensures.stays;
}

pub loop-preserved : goal.loop-preserved
loop-preserved g c =
    let was = c.loop.invariant in
    let whole = c.in_ok-sent-2.ensures.whole in
    record {
      lab = c.send_standing-in-loop.ensures.lab;
      goes_on = goes-on _ _ _ was.goes_on c.send_standing-in-loop.ensures.goes_on;
      reader = was.reader;
      all = omega (arith, was.all, whole.1.number);
      sent = writes-then (site_of g.J.Which) _ _ _ _ _ _ _ _ was.sent _ whole;
      stays = c.in_ok-sent-2.ensures.stays ∙ was.stays;
    }
