use Rattle.std.proofs.Common.{◌≡◌, length}
use Rattle.std.proofs.lemmas.Result.{err_from_is_err_and}
use Rattle.pfl_world.proofs.Tickets.{repeat_step-found, repeat_refused, wanted_memory}
use Rattle.pfl_world.proofs.world.World.repeat.Goals as goal

pub returns-in_err-next-clause-refused : goal.returns-in_err-next-clause-refused
returns-in_err-next-clause-refused g c =
    let p = err_from_is_err_and c.from_residual.result c.from_residual.ensures.1 in
    rw (p.1, p.2, ← c.self.view_is) (repeat_refused _ c.args.ticket c.in_err-next.field-0.0 c.in_err-next.ensures.refused)

pub returns-in_err-lift_link-clause-refused : goal.returns-in_err-lift_link-clause-refused
returns-in_err-lift_link-clause-refused g c =
    let p = err_from_is_err_and c.from_residual-in_err-lift_link.result c.from_residual-in_err-lift_link.ensures.1 in
    rw (p.1, p.2, ← c.self.view_is)
    (wanted_memory _ _ _ (repeat_step-found _ c.args.ticket _ c.in_ok-next.ensures.frame c.in_ok-next.ensures.accepted)
    c.in_err-lift_link.ensures.refused)

pub returns-clause-step : goal.returns-clause-step
returns-clause-step g c =
    let len : c.len-len.result ≡ length c.in_ok-next.edit.frame.bytes = cc in
    rw (c.in_ok-lift_link.ensures.kept, c.in_ok-next.ensures.link, c.in_ok-next.ensures.ticket, len, ← c.self.view_is)
    (repeat_step-found _ c.args.ticket _ c.in_ok-next.ensures.frame c.in_ok-next.ensures.accepted)
