use Rattle.std.proofs.Common.{subst}
use Rattle.pfl_world.specs.Worlds.{IsWorld}
use Rattle.pfl_world.proofs.world.World.known.Goals as goal

pub returns : goal.returns
returns g c = record {
  world = subst IsWorld c.self.view_is
      (record { a = c.known.ensures.a; b = c.known.ensures.b; link = c.known-2.ensures.link; parts = c.self.invariant });
}
