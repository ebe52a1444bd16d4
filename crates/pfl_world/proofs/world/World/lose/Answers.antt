use Rattle.std.proofs.lemmas.Result.{err_from_is_err_and}
use Rattle.pfl_world.proofs.Tickets.{lose_step-found, lose_refused, wanted_memory}
use Rattle.pfl_world.proofs.world.World.lose.Goals as goal

pub returns-in_err-taken-clause-refused : goal.returns-in_err-taken-clause-refused
returns-in_err-taken-clause-refused g c =
    let p = err_from_is_err_and c.from_residual.result c.from_residual.ensures.1 in
    rw (p.1, p.2, ← c.self.view_is) (lose_refused _ c.args.ticket c.in_err-taken.field-0.0 c.in_err-taken.ensures.refused)

pub returns-in_err-lift_link-clause-refused : goal.returns-in_err-lift_link-clause-refused
returns-in_err-lift_link-clause-refused g c =
    let p = err_from_is_err_and c.from_residual-in_err-lift_link.result c.from_residual-in_err-lift_link.ensures.1 in
    rw (p.1, p.2, ← c.self.view_is) (wanted_memory _ _ _ (lose_step-found _ c.args.ticket _ c.in_ok-taken.ensures.frame) c.in_err-lift_link.ensures.refused)

pub returns-clause-step : goal.returns-clause-step
returns-clause-step g c =
    rw (c.in_ok-lift_link.ensures.kept, c.in_ok-taken.ensures.link, ← c.self.view_is) (lose_step-found _ c.args.ticket _ c.in_ok-taken.ensures.frame)
