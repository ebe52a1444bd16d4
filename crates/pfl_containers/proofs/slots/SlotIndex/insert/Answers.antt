use Rattle.std.proofs.Common.{◌≡◌, ◌<◌, None, ◌∙◌, ap, sym, subst, length, arith}
use Rattle.pfl_edits.specs.Maps as maps
use Rattle.pfl_containers.specs.Slots.{Tags}
use Rattle.pfl_containers.proofs.SlotFields.{fields-put, whole}
use Rattle.pfl_containers.proofs.slots.SlotIndex.insert.Goals as goal

pub invariant_of-self : goal.invariant_of-self
invariant_of-self g c =
    let made = c.with_room-self-inside.ensures in
    let asked = subst (λ (t : Tags). maps.len t.tags < t.limit) (sym c.self.view_is) c.requires.room in
    let room : c.self.inside.len < c.self.inside.limit = omega (arith, asked, c.self.invariant.0.count) in
    let new = subst (λ (t : Tags). maps.get t.tags c.args.slot ≡ None) (sym c.self.view_is) c.requires.new in
    let none = ap (λ m. maps.get m c.args.slot) made.map ∙ new in
    let same = c.put.auto.words ∙ ap length c.deref_mut.ensures.value in
    let more = rw (c.deref_mut.ensures.value) at c.put.ensures.map in
    rw (whole _ _ _ same (sym c.deref_mut.ensures.len ∙ ap length c.deref_mut.ensures.value)) (
      fields-put c.with_room-self-inside.new.words.items made.fields c.args.slot c.args.tag c.put.new.words c.put.ensures.words same more
          none room made.room,
      made.spare,
    )
