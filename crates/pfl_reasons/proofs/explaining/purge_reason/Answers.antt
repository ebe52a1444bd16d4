use Rattle.std.proofs.Common.{◌∙◌, ap}
use Rattle.pfl_edits.specs.Maps as maps
use Rattle.pfl_language.specs.Limits.{adaptive}
use Rattle.pfl_table.specs.Tables.{States}
use Rattle.pfl_reasons.specs.Explaining.{Expiries}
use Rattle.pfl_reasons.proofs.explaining.purge_reason.Goals as goal

pub returns : goal.returns
returns g c =
    let many = c.len.ensures.states ∙ ap (λ (m : States). maps.len m) c.states.ensures.states in
    let between = c.adaptive.ensures ∙ ap adaptive c.limits.ensures.limits in
    record { explained = λ i. Expiries (c.clock.ensures.clock i) (many i) (between i) (c.in_ok-list.ensures i) }
