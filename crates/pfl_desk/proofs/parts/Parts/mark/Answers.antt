use Rattle.std.proofs.Common.{◌<◌, ◌∙◌, ap, refl, sym, subst, arith}
use Rattle.pfl_desk.specs.declared.edit.NodeEdit.TheVariants.{OfQueue}
use Rattle.pfl_queue.specs.Edits.{marking}
use Rattle.pfl_queue.specs.Queues.{most_numbers, room_fault}
use Rattle.pfl_desk.specs.inner.Kept.{MayMark}
use Rattle.pfl_desk.specs.Nodes.{Node}
use Rattle.pfl_desk.proofs.Putting.{marked-node}
use Rattle.pfl_desk.proofs.Recording.{makes_as, full-marked, total-least}
use Rattle.pfl_desk.proofs.parts.Parts.mark.Goals as goal

pub mark_on-requires : goal.mark_on-requires
mark_on-requires g c =
    let least = (total-least c.args.self.now).1 in
    let same = ap (λ (m : Node). m.queue.next) c.self.view_is in
    record { countable = omega (arith, least, same, c.requires.countable) }

pub returns-in_default-clause-full : goal.returns-in_default-clause-full
returns-in_default-clause-full g c =
    full-marked c.args.self.now c.args.name c.args.kind (ap (λ (m : Node). room_fault m.queue c.args.name) (sym c.self.view_is) ∙ c.in_default.ensures.fault)

pub invariant_of-self-2 : goal.invariant_of-self-2
invariant_of-self-2 g c =
    let least = (total-least c.args.self.now).1 in
    let same = ap (λ (m : Node). m.queue.next) c.self.view_is in
    let number : c.self.inside.queue.next < most_numbers = omega (arith, least, same, c.requires.countable) in
    let may = subst (λ (m : Node). MayMark m c.args.name c.args.kind) (sym c.self.view_is) c.requires.may in
    (c.self.invariant.0, rw c.in-Ok.ensures.marked (marked-node _ c.args.name c.args.kind c.self.invariant.1 may c.in-Ok.ensures.no_fault number))

pub returns-clause-makes : goal.returns-clause-makes
returns-clause-makes g c =
    rw (← c.self.view_is) (rw c.in-Ok.ensures.marked
    (makes_as _ (OfQueue c.in-Ok.edit) (OfQueue (marking c.self.inside.queue c.args.name c.args.kind))
    (ap OfQueue c.in-Ok.ensures.edit) c.self.invariant.1 ((refl, refl), λ h. omega arith) (omega arith)))
