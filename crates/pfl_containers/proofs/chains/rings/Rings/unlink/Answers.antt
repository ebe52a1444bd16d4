use Rattle.std.proofs.Common.{sym, subst}
use Rattle.pfl_edits.specs.declared.in_order.Node.{Node}
use Rattle.pfl_containers.specs.inner.Rings.{IsNode}
use Rattle.pfl_containers.proofs.RingNodes.{slot-read, unlinks, sized-node}
use Rattle.pfl_containers.proofs.chains.rings.Rings.unlink.Goals as goal

pub set_next-requires : goal.set_next-requires
set_next-requires g c =
    let is = slot-read c.args.self.now c.args.slot c.index.result.now c.requires.slot.below c.requires.slot.used c.index.ensures in
    record { node = subst (λ (n : Node). IsNode c.args.self.now n.previous) (sym is) c.requires.previous }

pub set_previous-requires : goal.set_previous-requires
set_previous-requires g c =
    let is = slot-read c.args.self.now c.args.slot c.index.result.now c.requires.slot.below c.requires.slot.used c.index.ensures in
    record { node = sized-node _ _ c.set_next.ensures.sized _ (subst (λ (n : Node). IsNode c.args.self.now n.next) (sym is) c.requires.next) }

pub returns-clause-unlinked : goal.returns-clause-unlinked
returns-clause-unlinked g c =
    let is = slot-read c.args.self.now c.args.slot c.index.result.now c.requires.slot.below c.requires.slot.used c.index.ensures in
    let s = rw is at c.set_next.ensures.set in
    let t = rw is at c.set_previous.ensures.set in
    unlinks _ _ _ _ s t
