use Rattle.pfl_world.proofs.NewWorlds.{new_world-is, late_world-is}
use Rattle.pfl_world.proofs.laws.new_worlds_are_worlds.Goals as goal

pub returns-clause-opening : goal.returns-clause-opening
returns-clause-opening c = new_world-is

pub returns-clause-late : goal.returns-clause-late
returns-clause-late c = late_world-is
