use Rattle.std.proofs.Common.{◌∙◌, ap}
use Rattle.pfl_edits.specs.declared.in_order.Node.{Node}
use Rattle.pfl_containers.specs.inner.Rings.{slot_of}
use Rattle.pfl_containers.proofs.RingNodes.{fits-used}
use Rattle.pfl_containers.proofs.Views.{place-below, next-read}
use Rattle.pfl_containers.proofs.chains.Chains.next.Goals as goal

pub node-requires : goal.node-requires
node-requires g c =
    let kept = c.self.invariant.0 in
    record { node = fits-used _ _ _ _ c.self.invariant.1 _ (place-below _ _ _ _ _ kept _ c.self.view_is _ c.requires.stands) kept.few }

pub returns : goal.returns
returns g c = record {
  next = λ at. c.slot_at.ensures.slot
      ∙ (ap (λ (n : Node). slot_of c.self.inside.rings.limit n.next) c.node.ensures.node
      ∙ next-read _ _ _ _ _ c.self.invariant.0 _ c.self.view_is _ at);
}
