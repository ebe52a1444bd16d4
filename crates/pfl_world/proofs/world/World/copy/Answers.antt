use Rattle.pfl_world.proofs.world.World.copy.Goals as goal

pub returns : goal.returns
returns g c = record { same = rw (c.in_ok-nodes.ensures.same, c.in_ok-link.ensures.same) c.self.view_is }
