use Rattle.std.proofs.Common.{◌<◌, length, arith, Some}
use Rattle.pfl_containers.proofs.OrderEntries.{room_to_set, len-map_of}
use Rattle.pfl_containers.proofs.order.OrderedMap.insert.Goals as goal

pub set-requires : goal.set-requires
set-requires g c =
    let l = g.met.K.Ordered in
    let map = c.args.self.now in
    let are = c.known.ensures.entries in
    let room : length map.list < map.limit = omega (arith, c.requires.room, len-map_of g.K.Ordered.order map.list are.sorted) in
    record { room = room_to_set l.total map are c.args.key room (Some c.args.value) }
