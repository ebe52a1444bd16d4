use Rattle.std.proofs.Common.{◌≡◌, length, refl, arith}
use Rattle.pfl_wire.specs.Frames.{records_of}
use Rattle.pfl_receive.specs.Delivering.{receive_points, received}
use Rattle.pfl_node.specs.Delivering.{receive_refusal}
use Rattle.pfl_node.proofs.Judged.{by-points}
use Rattle.pfl_node.proofs.Ready.{begins}
use Rattle.pfl_node.proofs.Received.{received-ends}
use Rattle.pfl_node.proofs.receive.take_all.Goals as goal

pub take_frame-requires : goal.take_frame-requires
take_frame-requires g c =
    let room = (begins c.args.desk.now c.requires.idle.ready).frame in
    let few = c.requires.idle.node.parts.few in
    let short = c.requires.short in
    record { room = omega (arith, room, few, short) }

pub returns : goal.returns
returns g c =
    let a = c.args.desk.now in
    let b = c.take_frame.new.desk in
    let f = c.args.frame.now in
    let d = c.take_frame.ensures in
    by-points _ (receive_refusal a.node f) (received a.node f) (λ count. count ≡ length (records_of f)) (receive_points a.node f) a b
    c.take_frame.result c.judged.result c.judged.ensures.refused c.judged.ensures.answer refl d.went d.node d.count
    (received-ends a.node b.node f c.take_frame.result c.requires.idle.node.counted d.node) d.writes
