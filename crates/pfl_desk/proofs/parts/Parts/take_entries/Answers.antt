use Rattle.std.proofs.Common.{refl}
use Rattle.pfl_queue.specs.Taking.{next_frame}
use Rattle.pfl_desk.proofs.Taking.{left-node, taken-makes}
use Rattle.pfl_desk.proofs.parts.Parts.take_entries.Goals as goal

pub invariant_of-self-2 : goal.invariant_of-self-2
invariant_of-self-2 g c =
    (c.self.invariant.0, rw c.in_ok-entries.ensures.left (left-node (next_frame c.self.inside.queue c.self.inside.limits.mtu) _ c.self.invariant.1))

pub returns-clause-makes : goal.returns-clause-makes
returns-clause-makes g c =
    let e = c.in_ok-entries.ensures in
    rw (← c.self.view_is) (rw e.left (taken-makes _ _ c.in_ok-entries.taken.list c.self.invariant.1 refl e.edits))
