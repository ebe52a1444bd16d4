use Rattle.pfl_receive.specs.desk.Nodes.{Node}
use Rattle.std.proofs.Common.{◌≡◌, None, Some, ◌∙◌, ap, sym}
use Rattle.pfl_receive.specs.defer.Deferring.{pushed_out}
use Rattle.pfl_node.proofs.Holding.{room-some, room-none}
use Rattle.pfl_node.proofs.packet.hold.make_room.Goals as goal

pub returns-in_default-clause-node : goal.returns-in_default-clause-node
returns-in_default-clause-node g c =
    let n = c.args.desk.now.node in
    let out : pushed_out n.held ≡ None = ap pushed_out (sym (c.held.ensures.held ∙ ap (λ (k : Node). k.held) c.parts.ensures.parts)) ∙ (sym c.pushed_out.ensures.oldest ∙ c.in_default.is) in
    sym (room-none n out)

pub returns-clause-node : goal.returns-clause-node
returns-clause-node g c =
    let n = c.args.desk.now.node in
    let out : pushed_out n.held ≡ Some c.in-Some.held = ap pushed_out (sym (c.held.ensures.held ∙ ap (λ (k : Node). k.held) c.parts.ensures.parts)) ∙ (sym c.pushed_out.ensures.oldest ∙ c.in-Some.is) in
    c.release.ensures.node ∙ sym (room-some n c.in-Some.held out)
