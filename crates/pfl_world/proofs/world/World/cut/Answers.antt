use Rattle.std.proofs.lemmas.Result.{err_from_is_err_and}
use Rattle.pfl_world.proofs.Tickets.{cut_step-found, cut_refused, wanted_memory}
use Rattle.pfl_world.proofs.world.World.cut.Goals as goal

pub returns-in_err-kept-clause-refused : goal.returns-in_err-kept-clause-refused
returns-in_err-kept-clause-refused g c =
    let p = err_from_is_err_and c.from_residual.result c.from_residual.ensures.1 in
    rw (p.1, p.2, ← c.self.view_is) (cut_refused _ c.args.ticket c.args.len c.in_err-kept.field-0.0 c.in_err-kept.ensures.refused)

pub returns-in_err-lift_link-clause-refused : goal.returns-in_err-lift_link-clause-refused
returns-in_err-lift_link-clause-refused g c =
    let p = err_from_is_err_and c.from_residual-in_err-lift_link.result c.from_residual-in_err-lift_link.ensures.1 in
    rw (p.1, p.2, ← c.self.view_is)
    (wanted_memory _ _ _ (cut_step-found _ c.args.ticket c.args.len _ c.in_ok-kept.ensures.frame) c.in_err-lift_link.ensures.refused)

pub returns-clause-step : goal.returns-clause-step
returns-clause-step g c =
    rw (c.in_ok-lift_link.ensures.kept, c.in_ok-kept.ensures.link, c.in_ok-kept.ensures.len, ← c.self.view_is)
    (cut_step-found _ c.args.ticket c.args.len _ c.in_ok-kept.ensures.frame)
