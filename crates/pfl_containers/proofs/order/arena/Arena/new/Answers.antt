use Rattle.std.proofs.Common.{arith}
use Rattle.pfl_containers.proofs.Filling.{starts}
use Rattle.pfl_containers.proofs.order.arena.Arena.new.Goals as goal

pub returns : goal.returns
returns g c = record {
  stores = starts g.met.K.Ordered.total c.in_ok-nodes.nodes c.args.limit c.in_ok-nodes.ensures.items
      (omega (arith, c.in_ok-nodes.ensures.capacity)) c.requires.places;
}
