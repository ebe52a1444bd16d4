use Rattle.std.proofs.Common.{◌≡◌, Some, ◌∙◌, ap, sym, subst}
use Rattle.std.specs.Option.{option_map}
use Rattle.pfl_base.specs.Names.{name_cmp}
use Rattle.pfl_edits.proofs.ForCallers.{row_at}
use Rattle.pfl_containers.specs.SlotIndexes.{key_of}
use Rattle.pfl_table.specs.inner.Filed.{Filing, name_of, row_of_link, slot_of_link}
use Rattle.pfl_table.proofs.Storing.{name-place}
use Rattle.pfl_table.proofs.stored.Stored.near.Goals as goal

pub at-requires : goal.at-requires
at-requires g c = record {
  stands = (name-place c.self.inside.rows c.self.inside.indexes c.self.invariant c.args.name c.in_ok-slot.slot
      (subst (λ (f : Filing). Some c.in_ok-slot.slot ≡ option_map slot_of_link (row_at name_cmp (key_of name_of) f.links c.args.name))
      (sym c.self.view_is) c.in_ok-slot.ensures.slot)).at;
}

pub returns : goal.returns
returns g c =
    let place = name-place c.self.inside.rows c.self.inside.indexes c.self.invariant c.args.name c.in_ok-slot.slot
    (subst (λ (f : Filing). Some c.in_ok-slot.slot ≡ option_map slot_of_link (row_at name_cmp (key_of name_of) f.links c.args.name))
    (sym c.self.view_is) c.in_ok-slot.ensures.slot) in
    record { row = rw (← c.self.view_is) (ap Some (c.at.ensures.value place.at) ∙ sym (ap (option_map row_of_link) place.is)) }
