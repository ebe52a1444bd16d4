use Rattle.pfl_containers.proofs.Changing.{merge_below}
use Rattle.pfl_containers.proofs.order.changes.merged.Goals as goal

pub returns : goal.returns
returns g c = record { merges = merge_below c.in-Some.ensures.parts c.balanced.ensures.joins }
