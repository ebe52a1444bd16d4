use Rattle.std.proofs.Common.{[], arith, length, refl, ◌≤◌, ◌∙◌}
use Rattle.std.proofs.lemmas.Result.{err_from_is_err_and}
use Rattle.pfl_script.proofs.ForCallers.{appends_none}
use Rattle.pfl_session.proofs.ForCallers.{goes-on}
use Rattle.pfl_session.specs.Passes.{seen_in}
use Rattle.pfl_serve.specs.Seats.{site_of}
use Rattle.pfl_serve.proofs.Entries.{breaks-then, grown, seen-more, sent-none, writes-then}
use Rattle.pfl_serve.proofs.serving.Serving.send_standing.Goals as goal

-- a line was not written whole
pub returns-in_err-sent-clause-breaks : goal.returns-in_err-sent-clause-breaks
returns-in_err-sent-clause-breaks g c =
    let p = err_from_is_err_and c.from_residual.result c.from_residual.ensures.1 in
    rw (p.1, p.2) (breaks-then (site_of g.J.Which) _ _ _ _ _ _ _ _ c.loop-sent.invariant.sent _ c.in_err-sent.ensures.breaks)

-- no entry yet
pub loop-sent-init : goal.loop-sent-init
loop-sent-init g c =
    let e = c.meet-entries.ensures in
    let old = c.args.pass.now in
    let new = c.meet-entries.new.pass in
    let low = length (seen_in old) in
    let more : low ≤ length (seen_in new) = grown old new (record { others = e.others; half = e.half }) in
    record {
      lab = e.lab;
      goes_on = e.goes_on;
      there = omega (arith, e.number);
      all = omega (arith, e.number, more);
      sent = (
        [],
        sent-none (site_of g.J.Which) low c.args.sent old new (record { goes_on = e.goes_on; journal = e.journal; own = e.counted })
            (record { others = e.others; half = e.half }),
        appends_none _,
      );
      stays = refl;
    }

-- one entry more
pub loop-sent-preserved : goal.loop-sent-preserved
loop-sent-preserved g c =
    let was = c.loop-sent.invariant in
    let whole = c.in_ok-sent.ensures.whole in
    record {
      lab = c.send_entry.ensures.lab;
      goes_on = goes-on _ _ _ was.goes_on c.send_entry.ensures.goes_on;
      there = seen-more (site_of g.J.Which) _ _ _ _ _ _ _ whole.1 was.there;
      all = was.all;
      sent = writes-then (site_of g.J.Which) _ _ _ _ _ _ _ _ was.sent _ whole;
      stays = c.in_ok-sent.ensures.stays ∙ was.stays;
    }
