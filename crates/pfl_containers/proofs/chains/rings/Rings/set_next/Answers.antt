use Rattle.std.proofs.Common.{◌<◌, length, arith, refl}
use Rattle.pfl_containers.proofs.RingNodes.{slot-read, head-read, slot-set, head-set, sets-next}
use Rattle.pfl_containers.proofs.chains.rings.Rings.set_next.Goals as goal

pub returns-then-at-self-clause-set : goal.returns-then-at-self-clause-set
returns-then-at-self-clause-set g c =
    let within : c.args.at < length c.args.self.now.nodes.items = omega (arith, c.requires.node.slot) in
    sets-next _ _ _ _ c.index_mut.result.now (slot-read _ _ _ (omega arith) within c.index_mut.ensures.value)
    (slot-set _ _ _ _ refl (omega arith) within refl refl)

pub returns-else-at-self-clause-set : goal.returns-else-at-self-clause-set
returns-else-at-self-clause-set g c =
    sets-next _ _ _ _ c.index_mut-else-at-self.result.now
    (head-read _ _ _ (omega arith) (omega arith) c.index_mut-else-at-self.ensures.value)
    (head-set _ _ _ _ refl (omega arith) (omega arith) refl refl)
