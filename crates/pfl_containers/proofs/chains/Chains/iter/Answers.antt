use Rattle.std.proofs.Common.{◌≡◌, ◌+◌, ◌<◌, ℕ, length, arith, ◌∙◌, ap, sym}
use Rattle.pfl_edits.specs.declared.in_order.Node.{Node}
use Rattle.pfl_edits.specs.Linked.{entries_from, next_of as next_in}
use Rattle.pfl_containers.specs.inner.Rings.{node_of, next_of}
use Rattle.pfl_containers.proofs.RingNodes.{fits-head, slot-node}
use Rattle.pfl_containers.proofs.Views.{list-within, list-entries}
use Rattle.pfl_containers.proofs.chains.Chains.iter.Goals as goal

pub overflow_add-self-inside-2 : goal.overflow_add-self-inside-2
overflow_add-self-inside-2 g c =
    let kept = c.self.invariant.0 in
    omega (arith, kept.small, list-within _ _ _ _ _ kept _ c.self.view_is c.args.list c.requires.list)

pub node-first-requires : goal.node-first-requires
node-first-requires g c =
    let within = list-within _ _ _ _ _ c.self.invariant.0 _ c.self.view_is c.args.list c.requires.list in
    record { node = fits-head _ _ _ _ c.self.invariant.1 (1 + c.args.list) _ (omega (arith, within)) (omega arith) }

pub returns : goal.returns
returns g c =
    let start = c.self.inside.rings.limit + 1 + c.args.list in
    let rings = c.self.inside.rings in
    let values = c.self.inside.values.items in
    let kept = c.self.invariant.0 in
    let next : c.node-first.result.next ≡ next_of (node_of rings) start = ap (λ (n : Node). n.next) c.node-first.ensures.node in
    let long : c.len.result ≡ length values = omega (arith, c.len.ensures, c.deref-2.ensures.len, ap length c.deref-2.ensures.value) in
    let read : entries_from c.deref.result.now c.deref-2.result.now c.len.result c.node-first.result.next
    ≡ entries_from rings.nodes.items values (length values) (next_of (node_of rings) start) =
    cc (next, long, c.deref.ensures.value, c.deref-2.ensures.value) in
    let same : (i : ℕ) → i < length values
    → next_of (node_of rings) i ≡ next_in rings.nodes.items i = λ i h. ap (λ (n : Node). n.next) (slot-node rings i (omega (arith, kept.few))) in
    let listed = list-entries _ _ _ _ _ kept _ c.self.view_is rings.nodes.items same c.args.list start c.requires.list (omega arith) in
    record { values = c.linked.ensures.entries ∙ (read ∙ sym listed) }
