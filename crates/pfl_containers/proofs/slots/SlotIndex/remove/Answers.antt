use Rattle.std.proofs.Common.{◌∙◌, ap, sym, subst, length}
use Rattle.pfl_containers.specs.Slots.{Tags, HasTag}
use Rattle.pfl_containers.proofs.SlotFields.{fields-taken, not_empty, whole}
use Rattle.pfl_containers.proofs.slots.SlotIndex.remove.Goals as goal

pub overflow_sub-self : goal.overflow_sub-self
overflow_sub-self g c =
    let has = subst (λ (t : Tags). HasTag t.tags c.args.tag c.args.slot) (sym c.self.view_is) c.requires.stands in
    not_empty c.self.inside.words.items c.self.invariant.0 c.args.slot c.args.tag has

pub invariant_of-self : goal.invariant_of-self
invariant_of-self g c =
    let has = subst (λ (t : Tags). HasTag t.tags c.args.tag c.args.slot) (sym c.self.view_is) c.requires.stands in
    let same = c.take_out.auto.words ∙ ap length c.deref_mut.ensures.value in
    let less = rw (c.deref_mut.ensures.value) at c.take_out.ensures.map in
    rw (whole _ _ _ same (sym c.deref_mut.ensures.len ∙ ap length c.deref_mut.ensures.value)) (
      fields-taken c.self.inside.words.items c.self.invariant.0 c.args.slot c.args.tag c.take_out.new.words c.take_out.ensures.words same
          less has,
      c.self.invariant.1,
    )
