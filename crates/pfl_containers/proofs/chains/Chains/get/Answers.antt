use Rattle.std.proofs.Common.{◌≡◌, ◌-◌, suc, arith, ap}
use Rattle.std.proofs.lemmas.Option.{slice_get_read}
use Rattle.pfl_edits.specs.declared.in_order.Node.{Node}
use Rattle.pfl_containers.specs.inner.Rings.{node_of, ring_of}
use Rattle.pfl_containers.proofs.RingNodes.{fits-used}
use Rattle.pfl_containers.proofs.Views.{place-below, place-ring_of, get-read}
use Rattle.pfl_containers.proofs.chains.Chains.get.Goals as goal

pub node-ring-requires : goal.node-ring-requires
node-ring-requires g c =
    let kept = c.self.invariant.0 in
    record { node = fits-used _ _ _ _ c.self.invariant.1 _ (omega (arith, c.len.ensures)) kept.few }

pub returns-then-slot-len-clause-free : goal.returns-then-slot-len-clause-free
returns-then-slot-len-clause-free g c = λ _ at.
    let below = place-below _ _ _ _ _ c.self.invariant.0 _ c.self.view_is _ at in
    absurd (omega (arith, c.len.ensures))

pub returns-then-ring-eq0-clause-free : goal.returns-then-ring-eq0-clause-free
returns-then-ring-eq0-clause-free g c = λ _ at.
    absurd (omega (arith, ap (λ (n : Node). n.ring) c.node-ring.ensures.node, place-ring_of _ _ _ _ _ c.self.invariant.0 _ c.self.view_is _ at))

pub returns-clause-found : goal.returns-clause-found
returns-clause-found g c =
    let ring : ring_of (node_of c.self.inside.rings) c.args.slot ≡ suc (c.node-ring.result.ring - 1) =
    omega (arith, ap (λ (n : Node). n.ring) c.node-ring.ensures.node) in
    let there = slice_get_read c.self.inside.values.items c.len.result c.args.slot c.index.result.now (omega (arith, c.len.ensures))
    (omega arith) c.index.ensures in
    get-read _ _ _ _ _ c.self.invariant.0 _ c.self.view_is _ _ _ there ring
