use Rattle.std.proofs.Common.{◌+◌, arith, ◌∙◌, ap}
use Rattle.pfl_edits.specs.declared.in_order.Node.{Node}
use Rattle.pfl_containers.specs.inner.Rings.{slot_of}
use Rattle.pfl_containers.proofs.RingNodes.{fits-head}
use Rattle.pfl_containers.proofs.Views.{list-within, last-read}
use Rattle.pfl_containers.proofs.chains.Chains.last.Goals as goal

pub overflow_add-head-2 : goal.overflow_add-head-2
overflow_add-head-2 g c =
    let kept = c.self.invariant.0 in
    omega (arith, kept.small, list-within _ _ _ _ _ kept _ c.self.view_is c.args.list c.requires.list)

pub node-requires : goal.node-requires
node-requires g c =
    let within = list-within _ _ _ _ _ c.self.invariant.0 _ c.self.view_is c.args.list c.requires.list in
    record { node = fits-head _ _ _ _ c.self.invariant.1 (1 + c.args.list) _ (omega (arith, within)) (omega arith) }

pub returns : goal.returns
returns g c =
    let last = last-read _ _ _ _ _ c.self.invariant.0 _ c.self.view_is c.args.list
    (c.self.inside.rings.limit + 1 + c.args.list) c.requires.list (omega arith) in
    record { last = c.slot_at.ensures.slot ∙ (ap (λ (n : Node). slot_of c.self.inside.rings.limit n.previous) c.node.ensures.node ∙ last) }
