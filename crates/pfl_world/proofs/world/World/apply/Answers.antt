use Rattle.std.proofs.Common.{length, ap, arith}
use Rattle.pfl_world.proofs.Recording.{fits_since, back_since, kind_since}
use Rattle.pfl_world.proofs.world.World.apply.Goals as goal

pub returns-clause-fits : goal.returns-clause-fits
returns-clause-fits g c = rw c.new-change.ensures.list at (fits_since c.in_ok-outcome.ensures.recorded)

pub returns-clause-back : goal.returns-clause-back
returns-clause-back g c = rw c.new-change.ensures.list at (back_since c.in_ok-outcome.ensures.recorded)

pub returns-clause-weight : goal.returns-clause-weight
returns-clause-weight g c = omega (arith, c.in_ok-outcome.ensures.few, ap length c.new-change.ensures.list)

pub returns-clause-small : goal.returns-clause-small
returns-clause-small g c = rw c.new-change.ensures.list at (kind_since c.in_ok-outcome.ensures.recorded)
