use Rattle.std.proofs.Common.{◌+◌, ◌∙◌, ap, sym, arith}
use Rattle.pfl_desk.specs.declared.edit.NodeEdit.TheVariants.{Count}
use Rattle.pfl_desk.specs.Edits.{count_of}
use Rattle.pfl_desk.specs.Nodes.{Node}
use Rattle.pfl_desk.proofs.Keeps.{keeps_counters}
use Rattle.pfl_desk.proofs.Recording.{makes, total-count}
use Rattle.pfl_desk.proofs.parts.Parts.count.Goals as goal

pub overflow_add-after : goal.overflow_add-after
overflow_add-after g c =
    let least = total-count c.args.self.now c.args.counter in
    let same = c.get-before.ensures.number ∙ ap (λ (m : Node). count_of c.args.counter m.counters) c.self.view_is in
    omega (arith, least, same, c.requires.countable)

pub invariant_of-self : goal.invariant_of-self
invariant_of-self g c = (c.self.invariant.0, keeps_counters _ _ c.self.invariant.1)

pub returns-clause-makes : goal.returns-clause-makes
returns-clause-makes g c =
    let edit = Count c.args.counter c.get-before.result (c.get-before.result + 1) in
    rw (← c.self.view_is) (rw c.set.ensures.set (makes _ edit c.self.invariant.1 (sym c.get-before.ensures.number, λ h. omega arith) (omega arith)))
