use Rattle.std.proofs.Common.{◌<◌, length, ap, sym, subst, ◌∙◌, arith}
use Rattle.std.proofs.lemmas.Result.{err_from_is_err_and}
use Rattle.pfl_timeline.proofs.ForCallers.world.{where_err}
use Rattle.pfl_session.specs.Passes.{Seen, seen_in, HasSeenJournal, AddsOthers}
use Rattle.pfl_session.proofs.Asked.{met-journal, met-length, met-others, met-counted, met-called, entered-journal}
use Rattle.pfl_session.proofs.ledger.Ledger.ask.Goals as goal

pub returns-then-is_full-clause-journal : goal.returns-then-is_full-clause-journal
returns-then-is_full-clause-journal g c = met-journal _ _ _ _ _ _ c.catch_up.ensures.met

pub returns-then-is_full-clause-refused : goal.returns-then-is_full-clause-refused
returns-then-is_full-clause-refused g c =
    met-length _ _ _ _ _ _ c.catch_up.ensures.met ∙ c.is_full.ensures.full c.if-is_full.true

pub returns-then-is_full-clause-not_called : goal.returns-then-is_full-clause-not_called
returns-then-is_full-clause-not_called g c = met-others _ _ _ _ _ _ c.catch_up.ensures.met

pub returns-then-is_full-clause-counted : goal.returns-then-is_full-clause-counted
returns-then-is_full-clause-counted g c = met-counted _ _ _ _ _ _ c.catch_up.ensures.met

pub returns-in_err-enter-clause-journal : goal.returns-in_err-enter-clause-journal
returns-in_err-enter-clause-journal g c =
    subst (HasSeenJournal g.J.Which.opening (length g.J.Which.tallies) g.J.Which.limit) (sym c.in_err-enter.ensures.unchanged.1)
    (met-journal _ _ _ _ _ _ c.catch_up.ensures.met)

pub returns-in_err-enter-clause-refused : goal.returns-in_err-enter-clause-refused
returns-in_err-enter-clause-refused g c =
    let room = c.is_full.ensures.room c.if-is_full.false in
    let seen = met-length _ _ _ _ _ _ c.catch_up.ensures.met in
    let same = ap (λ (p : Seen g.row.A.Denot). length (seen_in p)) c.in_err-enter.ensures.unchanged.1 in
    let few : length (seen_in c.enter.new.pass) < g.J.Which.limit = omega (arith, room, seen, same) in
    let p = err_from_is_err_and c.from_residual.result c.from_residual.ensures.1 in
    rw (p.1, p.2) few

pub returns-in_err-enter-clause-not_called : goal.returns-in_err-enter-clause-not_called
returns-in_err-enter-clause-not_called g c =
    where_err c.from_residual.result
    (subst (AddsOthers c.args.pass.now) (sym c.in_err-enter.ensures.unchanged.1) (met-others _ _ _ _ _ _ c.catch_up.ensures.met))

pub returns-in_err-enter-clause-counted : goal.returns-in_err-enter-clause-counted
returns-in_err-enter-clause-counted g c = met-counted _ _ _ _ _ _ c.catch_up.ensures.met

pub returns-clause-journal : goal.returns-clause-journal
returns-clause-journal g c = entered-journal _ _ _ _ _ _ _ _ _ c.in_ok-enter.ensures.entered

pub returns-clause-called : goal.returns-clause-called
returns-clause-called g c = met-called _ _ _ _ _ _ c.catch_up.ensures.met _ _ _ _ c.in_ok-enter.ensures.entered

pub returns-clause-counted : goal.returns-clause-counted
returns-clause-counted g c = met-counted _ _ _ _ _ _ c.catch_up.ensures.met
