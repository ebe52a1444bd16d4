use Rattle.pfl_world.specs.Weights.{weight}
use Rattle.pfl_world.specs.inner.Recording.{Recorded}
use Rattle.pfl_world.proofs.Recording.{kept_below, on_ok, fits_since, back_since, kind_since, few_since}
use Rattle.pfl_world.proofs.world.World.apply_on.Goals as goal

pub returns-clause-taped : goal.returns-clause-taped
returns-clause-taped g c = kept_below _ _ _ _ _ c.apply_to.result c.apply_to.ensures.unrecorded c.apply_to.ensures.recorded

pub returns-clause-fits : goal.returns-clause-fits
returns-clause-fits g c = on_ok c.apply_to.result (λ (r : Recorded _ _ _ _ _). fits_since r) c.apply_to.ensures.recorded

pub returns-clause-back : goal.returns-clause-back
returns-clause-back g c = on_ok c.apply_to.result (λ (r : Recorded _ _ _ _ _). back_since r) c.apply_to.ensures.recorded

pub returns-clause-weight : goal.returns-clause-weight
returns-clause-weight g c =
    on_ok c.apply_to.result (few_since c.args.tape.now.list c.apply_to.new.to.list (weight c.args.self.now c.args.event.now)) c.apply_to.ensures.few

pub returns-clause-small : goal.returns-clause-small
returns-clause-small g c = on_ok c.apply_to.result (λ (r : Recorded _ _ _ _ _). kind_since r) c.apply_to.ensures.recorded
