use Rattle.std.proofs.Common.{sym, ◌∙◌}
use Rattle.std.proofs.lemmas.Result.{err_from_is_err_and}
use Rattle.pfl_serve.specs.Seats.{site_of}
use Rattle.pfl_serve.proofs.Entries.{breaks-sent, lacks-sent, sent-made}
use Rattle.pfl_serve.proofs.serving.Serving.send_entry.Goals as goal

-- there was no memory for the line
pub returns-in_default-sent_text-clause-breaks : goal.returns-in_default-sent_text-clause-breaks
returns-in_default-sent_text-clause-breaks g c =
    let e = c.entry_after-made.ensures in
    lacks-sent (site_of g.J.Which) c.args.sent _ _ _ (record { goes_on = e.goes_on; journal = e.journal; own = e.counted })
    (record { others = e.others; half = e.half })

-- the line was written in part
pub returns-in_err-write_text-clause-breaks : goal.returns-in_err-write_text-clause-breaks
returns-in_err-write_text-clause-breaks g c =
    let e = c.entry_after-made.ensures in
    let p = err_from_is_err_and c.from_residual.result c.from_residual.ensures.1 in
    let sent = sent-made (site_of g.J.Which) c.args.sent c.entry_after-made.result.entries c.args.pass.now c.entry_after-made.new.pass
    c.in-Some.made c.as_slice.result.now
    (record { goes_on = e.goes_on; journal = e.journal; own = e.counted }) (record { others = e.others; half = e.half }) (sym c.in-Some.is
    ∙ e.made) e.entries e.loaded (c.as_slice.ensures.value ∙ c.in-Ok.ensures) in
    rw (p.1, p.2) (breaks-sent
    (site_of g.J.Which) c.args.sent _ _ _ _ c.in_err-write_text.field-0.0 _ _ c.in_err-write_text.ensures.part.0 sent
    c.in_err-write_text.ensures.fault c.in_err-write_text.ensures.part.2)

-- the line was written
pub returns-clause-whole : goal.returns-clause-whole
returns-clause-whole g c =
    let e = c.entry_after-made.ensures in
    let sent = sent-made (site_of g.J.Which) c.args.sent c.entry_after-made.result.entries c.args.pass.now c.entry_after-made.new.pass
    c.in-Some.made c.as_slice.result.now
    (record { goes_on = e.goes_on; journal = e.journal; own = e.counted }) (record { others = e.others; half = e.half }) (sym c.in-Some.is
    ∙ e.made) e.entries e.loaded (c.as_slice.ensures.value ∙ c.in-Ok.ensures) in
    (c.as_slice.result.now, sent, c.in_ok-write_text.ensures.whole)
