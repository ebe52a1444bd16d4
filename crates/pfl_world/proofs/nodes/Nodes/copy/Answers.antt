use Rattle.pfl_world.proofs.nodes.Nodes.copy.Goals as goal

pub returns : goal.returns
returns g c = record { same = rw (c.in_ok-copy.ensures.same, c.in_ok-copy-2.ensures.same) c.self.view_is }
