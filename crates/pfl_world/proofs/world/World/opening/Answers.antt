use Rattle.std.proofs.Common.{arith, refl}
use Rattle.pfl_world.proofs.world.World.opening.Goals as goal

pub invariant_of-result : goal.invariant_of-result
invariant_of-result g c = rw (c.in_ok-nodes.ensures.a, c.in_ok-nodes.ensures.b, c.in_ok-link.ensures.empty)
    (record { nodes = refl; link = refl; mtu = refl; countable = omega arith })
