use Rattle.std.proofs.Common.{◌≡◌, Some, None, ◌∙◌, ap, sym, subst, arith}
use Rattle.std.specs.Option.{option_map}
use Rattle.pfl_base.specs.Names.{name_cmp}
use Rattle.pfl_edits.proofs.ForCallers.{row_at}
use Rattle.pfl_containers.specs.Lists.{links_of}
use Rattle.pfl_containers.specs.SlotIndexes.{key_of}
use Rattle.pfl_table.specs.inner.Filed.{Filing, name_of, row_of_link, slot_of_link}
use Rattle.pfl_table.proofs.Storing.{name-place, name-none, one-counted, stored-changes, changes-row, may-change}
use Rattle.pfl_table.proofs.stored.Stored.change.Goals as goal

pub returns-in_err-slot-clause-former : goal.returns-in_err-slot-clause-former
returns-in_err-slot-clause-former g c =
    let links = links_of c.self.inside.rows 0 in
    rw (← c.self.view_is) (c.from_residual.ensures
    ∙ sym (ap (option_map row_of_link) (ap (row_at name_cmp (key_of name_of) links) (sym c.name.ensures)
    ∙ name-none links c.name.result
    (subst (λ (f : Filing). None ≡ option_map slot_of_link (row_at name_cmp (key_of name_of) f.links c.name.result))
    (sym c.self.view_is) c.in_err-slot.ensures.slot))))

pub at-requires : goal.at-requires
at-requires g c = record {
  stands = (name-place c.self.inside.rows c.self.inside.indexes c.self.invariant c.name.result c.in_ok-slot.slot
      (subst (λ (f : Filing). Some c.in_ok-slot.slot ≡ option_map slot_of_link (row_at name_cmp (key_of name_of) f.links c.name.result))
      (sym c.self.view_is) c.in_ok-slot.ensures.slot)).at;
}

pub change-requires : goal.change-requires
change-requires g c = record {
  stands =
      (name-place c.self.inside.rows c.self.inside.indexes c.self.invariant c.name.result c.in_ok-slot.slot
      (subst (λ (f : Filing). Some c.in_ok-slot.slot ≡ option_map slot_of_link (row_at name_cmp (key_of name_of) f.links c.name.result))
      (sym c.self.view_is) c.in_ok-slot.ensures.slot)).at;
}

pub change-requires-2 : goal.change-requires-2
change-requires-2 g c =
    let place = name-place c.self.inside.rows c.self.inside.indexes c.self.invariant c.name.result c.in_ok-slot.slot
    (subst (λ (f : Filing). Some c.in_ok-slot.slot ≡ option_map slot_of_link (row_at name_cmp (key_of name_of) f.links c.name.result))
    (sym c.self.view_is) c.in_ok-slot.ensures.slot) in
    record {
      changes = may-change c.self.inside.rows c.self.inside.indexes c.self.invariant
          (omega (arith, c.known.ensures.lists.few, one-counted c.self.inside.rows.lists c.self.invariant.one)) c.known.ensures.lists
          c.in_ok-slot.slot c.at.result.now place.at place.here (c.at.ensures.value place.at);
    }

pub invariant_of-self : goal.invariant_of-self
invariant_of-self g c =
    let rows = c.self.inside.rows in
    let place = name-place rows c.self.inside.indexes c.self.invariant c.name.result c.in_ok-slot.slot
    (subst (λ (f : Filing). Some c.in_ok-slot.slot ≡ option_map slot_of_link (row_at name_cmp (key_of name_of) f.links c.name.result))
    (sym c.self.view_is) c.in_ok-slot.ensures.slot) in
    let same = sym c.name.ensures ∙ sym place.named in
    let none = c.requires.new c.in_ok-slot.slot place.at.value place.at.front place.at.back
    (ap (λ (f : Filing). f.links) (sym c.self.view_is) ∙ (sym (ap (links_of rows) place.here) ∙ place.at.split)) same in
    stored-changes rows _ c.self.inside.indexes _ c.self.invariant c.known.ensures.lists c.in_ok-slot.slot c.at.result.now c.args.row
    place.at place.here (c.at.ensures.value place.at) (c.change.ensures.changed place.at) c.change-2.ensures.changes same none c.requires.stated

pub returns-clause-former : goal.returns-clause-former
returns-clause-former g c =
    let links = links_of c.self.inside.rows 0 in
    let place = name-place c.self.inside.rows c.self.inside.indexes c.self.invariant c.name.result c.in_ok-slot.slot
    (subst (λ (f : Filing). Some c.in_ok-slot.slot ≡ option_map slot_of_link (row_at name_cmp (key_of name_of) f.links c.name.result))
    (sym c.self.view_is) c.in_ok-slot.ensures.slot) in
    rw (← c.self.view_is) (ap Some (c.at.ensures.value place.at)
    ∙ sym (ap (option_map row_of_link) (ap (row_at name_cmp (key_of name_of) links) (sym c.name.ensures) ∙ place.is)))

pub returns-clause-changes : goal.returns-clause-changes
returns-clause-changes g c =
    let place = name-place c.self.inside.rows c.self.inside.indexes c.self.invariant c.name.result c.in_ok-slot.slot
    (subst (λ (f : Filing). Some c.in_ok-slot.slot ≡ option_map slot_of_link (row_at name_cmp (key_of name_of) f.links c.name.result))
    (sym c.self.view_is) c.in_ok-slot.ensures.slot) in
    rw (← c.self.view_is) (changes-row c.self.inside.rows _ c.self.inside.indexes c.self.invariant c.in_ok-slot.slot c.at.result.now
    c.args.row place.at place.here (c.at.ensures.value place.at) (c.change.ensures.changed place.at))
