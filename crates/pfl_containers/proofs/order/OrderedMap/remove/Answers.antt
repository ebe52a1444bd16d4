use Rattle.pfl_containers.proofs.OrderEntries.{room_to_remove}
use Rattle.pfl_containers.proofs.order.OrderedMap.remove.Goals as goal

pub set-requires : goal.set-requires
set-requires g c = record { room = room_to_remove g.met.K.Ordered.total c.args.self.now c.known.ensures.entries c.args.key }
