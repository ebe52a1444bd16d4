use Rattle.std.proofs.Common.{◌∙◌, sym}
use Rattle.pfl_world.proofs.Ranges.{faultless}
use Rattle.pfl_world.proofs.world.World.new_at.Goals as goal

pub opening-requires : goal.opening-requires
opening-requires g c = record { limits = faultless c.args.limits (sym c.fault_of.ensures.fault ∙ c.in_default.is) }
