use Rattle.std.proofs.Common.{ap, refl, arith}
use Rattle.pfl_edits.specs.declared.in_order.Node.{Node}
use Rattle.pfl_containers.proofs.RingNodes.{slot-set, inserts}
use Rattle.pfl_containers.proofs.chains.rings.Rings.insert.Goals as goal

pub returns-clause-inserted : goal.returns-clause-inserted
returns-clause-inserted g c =
    let sized = c.set_next.ensures.sized in
    let next = ap (λ (n : Node). n.next) c.node-next.ensures.node in
    let put = slot-set c.set_next.new.self _ c.args.slot _ refl (omega (arith, c.requires.slot.below, sized.limit))
    (omega (arith, c.requires.slot.used, sized.used)) refl refl in
    inserts _ _ _ _ _ _ _ _ next c.requires.apart c.requires.loose c.set_next.ensures.set put c.set_previous.ensures.set
