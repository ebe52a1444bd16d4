use Rattle.std.proofs.Common.{◌≡◌, Some, None, ◌∙◌, ap, sym, subst, arith}
use Rattle.std.specs.Option.{option_map}
use Rattle.pfl_base.specs.Names.{name_cmp}
use Rattle.pfl_edits.proofs.ForCallers.{row_at}
use Rattle.pfl_containers.specs.Lists.{links_of}
use Rattle.pfl_containers.specs.SlotIndexes.{key_of}
use Rattle.pfl_table.specs.inner.Filed.{Filing, name_of, row_of_link, slot_of_link}
use Rattle.pfl_table.proofs.Storing.{name-place, name-none, may-change, one-counted, stored-loses, loses-row}
use Rattle.pfl_table.proofs.stored.Stored.remove.Goals as goal

pub returns-in_err-slot-clause-former : goal.returns-in_err-slot-clause-former
returns-in_err-slot-clause-former g c =
    rw (← c.self.view_is) (c.from_residual.ensures
    ∙ sym (ap (option_map row_of_link)
    (name-none (links_of c.self.inside.rows 0) c.args.name
    (subst (λ (f : Filing). None ≡ option_map slot_of_link (row_at name_cmp (key_of name_of) f.links c.args.name))
    (sym c.self.view_is) c.in_err-slot.ensures.slot))))

pub remove-row-requires : goal.remove-row-requires
remove-row-requires g c = record {
  stands =
      (name-place c.self.inside.rows c.self.inside.indexes c.self.invariant c.args.name c.in_ok-slot.slot
      (subst (λ (f : Filing). Some c.in_ok-slot.slot ≡ option_map slot_of_link (row_at name_cmp (key_of name_of) f.links c.args.name))
      (sym c.self.view_is) c.in_ok-slot.ensures.slot)).at;
}

pub remove-requires : goal.remove-requires
remove-requires g c =
    let rows = c.self.inside.rows in
    let place = name-place rows c.self.inside.indexes c.self.invariant c.args.name c.in_ok-slot.slot
    (subst (λ (f : Filing). Some c.in_ok-slot.slot ≡ option_map slot_of_link (row_at name_cmp (key_of name_of) f.links c.args.name))
    (sym c.self.view_is) c.in_ok-slot.ensures.slot) in
    record {
      stands = may-change rows c.self.inside.indexes c.self.invariant
          (omega (arith, c.known.ensures.lists.few, one-counted rows.lists c.self.invariant.one)) c.known.ensures.lists c.in_ok-slot.slot
          c.remove-row.result place.at place.here (c.remove-row.ensures.value place.at);
    }

pub invariant_of-self : goal.invariant_of-self
invariant_of-self g c =
    let place = name-place c.self.inside.rows c.self.inside.indexes c.self.invariant c.args.name c.in_ok-slot.slot
    (subst (λ (f : Filing). Some c.in_ok-slot.slot ≡ option_map slot_of_link (row_at name_cmp (key_of name_of) f.links c.args.name))
    (sym c.self.view_is) c.in_ok-slot.ensures.slot) in
    stored-loses c.self.inside.rows _ c.self.inside.indexes _ c.self.invariant c.in_ok-slot.slot c.remove-row.result place.at place.here
    (c.remove-row.ensures.value place.at) (c.remove-row.ensures.removed place.at) c.remove.ensures.loses

pub returns-clause-former : goal.returns-clause-former
returns-clause-former g c =
    let place = name-place c.self.inside.rows c.self.inside.indexes c.self.invariant c.args.name c.in_ok-slot.slot
    (subst (λ (f : Filing). Some c.in_ok-slot.slot ≡ option_map slot_of_link (row_at name_cmp (key_of name_of) f.links c.args.name))
    (sym c.self.view_is) c.in_ok-slot.ensures.slot) in
    rw (← c.self.view_is) (ap Some (c.remove-row.ensures.value place.at) ∙ sym (ap (option_map row_of_link) place.is))

pub returns-clause-loses : goal.returns-clause-loses
returns-clause-loses g c =
    let place = name-place c.self.inside.rows c.self.inside.indexes c.self.invariant c.args.name c.in_ok-slot.slot
    (subst (λ (f : Filing). Some c.in_ok-slot.slot ≡ option_map slot_of_link (row_at name_cmp (key_of name_of) f.links c.args.name))
    (sym c.self.view_is) c.in_ok-slot.ensures.slot) in
    rw (← c.self.view_is) (loses-row c.self.inside.rows _ c.self.inside.indexes c.self.invariant c.in_ok-slot.slot c.remove-row.result
    place.at place.here (c.remove-row.ensures.value place.at) (c.remove-row.ensures.removed place.at))
