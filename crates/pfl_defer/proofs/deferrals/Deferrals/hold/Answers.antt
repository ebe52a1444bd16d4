use Rattle.pfl_defer.proofs.Kept.{with_room-has_room}
use Rattle.pfl_defer.proofs.deferrals.Deferrals.hold.Goals as goal

pub append-held-requires-clause-room : goal.append-held-requires-clause-room
append-held-requires-clause-room g c =
    let left = with_room-has_room _ c.push_out-released.ensures.known c.requires.some in
    rw c.push_out-released.ensures.deferrals left.room

pub append-held-requires-clause-fresh : goal.append-held-requires-clause-fresh
append-held-requires-clause-fresh g c =
    let left = with_room-has_room _ c.push_out-released.ensures.known c.requires.some in
    rw c.push_out-released.ensures.deferrals (left.fresh c.args.name c.requires.fresh)

pub append-held-requires-clause-later : goal.append-held-requires-clause-later
append-held-requires-clause-later g c =
    let left = with_room-has_room _ c.push_out-released.ensures.known c.requires.some in
    rw c.push_out-released.ensures.deferrals (left.up_to c.args.now c.requires.later)
