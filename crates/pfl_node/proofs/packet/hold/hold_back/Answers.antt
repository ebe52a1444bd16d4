use Rattle.std.proofs.Common.{true, ◌∙◌, ap}
use Rattle.pfl_track.specs.declared.state.State.{State}
use Rattle.pfl_node.specs.Starting.{with_room, hold}
use Rattle.pfl_node.proofs.Holding.{room-may, room-made}
use Rattle.pfl_receive.proofs.ForCallers.desk.{wanted-may, writes-then}
use Rattle.pfl_node.proofs.packet.hold.hold_back.Goals as goal

pub hold-requires-clause-waits : goal.hold-requires-clause-waits
hold-requires-clause-waits g c = ap (λ (s : State). s.ack_wanted) c.with_ack_wanted-waiting.ensures

pub hold-requires-clause-known : goal.hold-requires-clause-known
hold-requires-clause-known g c =
    let n = c.args.desk.now.node in
    let s = c.args.state in
    rw c.make_room.ensures.node (rw c.with_ack_wanted-waiting.ensures (wanted-may (with_room n) s true (room-may n s c.requires.parts c.requires.stands)))

pub hold-requires-clause-free : goal.hold-requires-clause-free
hold-requires-clause-free g c = rw c.make_room.ensures.node (room-made c.args.desk.now.node c.args.state.name c.requires.parts c.requires.fresh).free

pub hold-requires-clause-fresh : goal.hold-requires-clause-fresh
hold-requires-clause-fresh g c =
    rw c.make_room.ensures.node
    (rw c.with_ack_wanted-waiting.ensures (room-made c.args.desk.now.node c.args.state.name c.requires.parts c.requires.fresh).fresh)

pub returns-clause-step : goal.returns-clause-step
returns-clause-step g c =
    let room = c.make_room.ensures.node in
    let waiting = c.with_ack_wanted-waiting.ensures in
    c.hold.ensures.step ∙ (λ i. hold (room i) (waiting i) c.args.packet.now)

pub returns-clause-writes : goal.returns-clause-writes
returns-clause-writes g c = writes-then 3 3 _ _ _ c.make_room.ensures.writes c.hold.ensures.writes
