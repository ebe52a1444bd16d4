use Rattle.std.proofs.Common.{◌≡◌, ap, refl, arith}
use Rattle.std.proofs.lemmas.Result.{IfOk-weaker}
use Rattle.pfl_language.specs.declared.node_event.NodeOutcome.TheVariants as outcome
use Rattle.pfl_receive.specs.desk.Nodes.{points_refusal}
use Rattle.pfl_node.specs.Packets.{handled, packet_points}
use Rattle.pfl_node.specs.Starting.{Handled}
use Rattle.pfl_node.proofs.Judged.{by-points}
use Rattle.pfl_node.proofs.Points.{packet-ends}
use Rattle.pfl_node.proofs.Ready.{begins}
use Rattle.pfl_node.proofs.packet.packet.Goals as goal

pub handle-requires : goal.handle-requires
handle-requires g c =
    let room = (begins c.args.desk.now c.requires.idle.ready).room in
    record { parts = c.requires.idle.node.parts; room = omega (arith, room) }

pub returns : goal.returns
returns g c =
    let a = c.args.desk.now in
    let b = c.handle.new.desk in
    let d = c.handle.ensures.done in
    let h = handled a.node c.args.dir c.args.packet.now in
    let points = packet_points a.node c.args.dir c.args.packet.now in
    by-points _ (points_refusal points) h.node (λ f. outcome.Handled f ≡ outcome.Handled h.fate) points a b c.handle.result c.judged.result
    c.judged.ensures.refused c.judged.ensures.answer refl d.went
    (IfOk-weaker c.handle.result _ (λ _. b.node ≡ h.node) (λ r same. ap (λ (k : Handled). k.node) same) d.step)
    (IfOk-weaker c.handle.result _ (λ r. outcome.Handled r.0 ≡ outcome.Handled h.fate) (λ r same. ap (λ (k : Handled). outcome.Handled k.fate) same) d.step)
    (packet-ends a.node b.node c.args.dir c.args.packet.now c.handle.result d.step) d.writes
