use Rattle.std.proofs.Common.{rules, ◌≡◌, ◌≤◌, arith, ap, ◌∙◌}
use Rattle.std.proofs.lemmas.Result.{err_from_is_err_and}
use Rattle.pfl_serve.specs.Seats.{site_of}
use Rattle.pfl_serve.specs.Texts.{first_sent, followed_text, following_text}
use Rattle.pfl_serve.proofs.Entries.{breaks-begin, breaks-lines, ends-broken, ends-whole}
use Rattle.pfl_serve.proofs.serving.Serving.answer_follow.Goals as goal

-- its first line was not written whole
pub returns-in_err-write_text-clause-breaks : goal.returns-in_err-write_text-clause-breaks
returns-in_err-write_text-clause-breaks g c =
    let e = c.meet-entries.ensures in
    let p = err_from_is_err_and c.from_residual.result c.from_residual.ensures.1 in
    let same : c.as_bytes.result.now ≡ c.following_line.result.bytes = search rules in
    let line : c.as_bytes.result.now ≡ following_text (first_sent c.args.from c.meet-entries.result) =
    same ∙ (c.following_line.ensures ∙ ap following_text c.first_sent-first.ensures) in
    rw (p.1, p.2) (breaks-begin (site_of g.J.Which) c.args.from c.meet-entries.result c.args.seat.now.pass _
    (record { goes_on = e.goes_on; journal = e.journal; own = e.counted }) (record { others = e.others; half = e.half }) e.loaded e.number
    c.in_err-write_text.field-0.0 _ _ c.in_err-write_text.ensures.part.0 c.in_err-write_text.ensures.fault (rw line at c.in_err-write_text.ensures.part.2))

-- the lines of entries were not written whole
pub returns-in_err-sent-clause-breaks : goal.returns-in_err-sent-clause-breaks
returns-in_err-sent-clause-breaks g c =
    let e = c.meet-entries.ensures in
    let p = err_from_is_err_and c.from_residual-in_err-sent.result c.from_residual-in_err-sent.ensures.1 in
    let same : c.as_bytes.result.now ≡ c.following_line.result.bytes = search rules in
    let line : c.as_bytes.result.now ≡ following_text (first_sent c.args.from c.meet-entries.result) =
    same ∙ (c.following_line.ensures ∙ ap following_text c.first_sent-first.ensures) in
    rw (p.1, p.2) (breaks-lines (site_of g.J.Which) c.args.from c.meet-entries.result c.args.seat.now.pass _
    (record { goes_on = e.goes_on; journal = e.journal; own = e.counted }) (record { others = e.others; half = e.half }) e.loaded e.number
    _ _ _ _ _ (rw line at c.in_ok-write_text.ensures.whole) (rw c.first_sent-first.ensures at c.in_err-sent.ensures.breaks))

-- its last line was written whole
pub returns-clause-whole : goal.returns-clause-whole
returns-clause-whole g c =
    let e = c.meet-entries.ensures in
    let same : c.as_bytes.result.now ≡ c.following_line.result.bytes = search rules in
    let line : c.as_bytes.result.now ≡ following_text (first_sent c.args.from c.meet-entries.result) =
    same ∙ (c.following_line.ensures ∙ ap following_text c.first_sent-first.ensures) in
    let same-2 : c.as_bytes-2.result.now ≡ c.followed_line.result.bytes = search rules in
    let line-2 : c.as_bytes-2.result.now ≡ followed_text c.in_ok-sent.sent = same-2 ∙ c.followed_line.ensures in
    let enough : c.meet-entries.result ≤ c.in_ok-sent.sent = omega (arith, e.number, c.in_ok-sent.ensures.all) in
    ends-whole (site_of g.J.Which) c.args.from c.meet-entries.result c.args.seat.now.pass _
    (record { goes_on = e.goes_on; journal = e.journal; own = e.counted }) (record { others = e.others; half = e.half }) e.loaded e.number
    c.write_text-2.result c.in_ok-sent.sent _ _ _ _ _ (rw line at c.in_ok-write_text.ensures.whole)
    (rw c.first_sent-first.ensures at c.in_ok-sent.ensures.whole) enough (rw line-2 at c.write_text-2.ensures.whole)

-- ... or not
pub returns-clause-breaks : goal.returns-clause-breaks
returns-clause-breaks g c =
    let e = c.meet-entries.ensures in
    let same : c.as_bytes.result.now ≡ c.following_line.result.bytes = search rules in
    let line : c.as_bytes.result.now ≡ following_text (first_sent c.args.from c.meet-entries.result) =
    same ∙ (c.following_line.ensures ∙ ap following_text c.first_sent-first.ensures) in
    let same-2 : c.as_bytes-2.result.now ≡ c.followed_line.result.bytes = search rules in
    let line-2 : c.as_bytes-2.result.now ≡ followed_text c.in_ok-sent.sent = same-2 ∙ c.followed_line.ensures in
    let enough : c.meet-entries.result ≤ c.in_ok-sent.sent = omega (arith, e.number, c.in_ok-sent.ensures.all) in
    ends-broken (site_of g.J.Which) c.args.from c.meet-entries.result c.args.seat.now.pass _
    (record { goes_on = e.goes_on; journal = e.journal; own = e.counted }) (record { others = e.others; half = e.half }) e.loaded e.number
    c.write_text-2.result c.in_ok-sent.sent _ _ _ _ _ (rw line at c.in_ok-write_text.ensures.whole)
    (rw c.first_sent-first.ensures at c.in_ok-sent.ensures.whole) enough c.write_text-2.ensures.fault (rw line-2 at c.write_text-2.ensures.part)
