use Rattle.std.proofs.Common.{◌∙◌, ap, List, ◌∷◌, [], ◌++◌}
use Rattle.pfl_language.specs.declared.event.Event.{Event}
use Rattle.pfl_events.proofs.Keeping.{taken-more}
use Rattle.pfl_events.proofs.events.Events.to_vec.Goals as goal

pub loop-index-preserved : goal.loop-index-preserved
loop-index-preserved g c =
    (rw c.unwrap.ensures at c.push.ensures.items)
    ∙ ap (λ (es : List Event). es ++ c.get.result ∷ []) (c.in_ok-reserve.ensures.items ∙ c.loop-index.invariant)
    ∙ taken-more _ _ _ c.get.ensures.event
