use Rattle.std.proofs.Common.{◌≡◌, IfSome, IsSome, Option, Some, ◌++◌, ◌∙◌, ap, sym, subst, arith}
use Rattle.std.specs.Option.{option_map}
use Rattle.pfl_base.specs.declared.state_name.StateName.{StateName}
use Rattle.pfl_base.specs.Names.{name_cmp}
use Rattle.pfl_edits.specs.Maps as maps
use Rattle.pfl_edits.proofs.ForCallers.{row_at}
use Rattle.pfl_containers.specs.Lists.{links_of}
use Rattle.pfl_containers.specs.SlotIndexes.{key_of}
use Rattle.pfl_table.specs.declared.row.Row.{Row}
use Rattle.pfl_table.specs.inner.Filed.{Filing, ChangesRow, SameKeys, name_of, rows_of, row_of_link, slot_of_link}
use Rattle.pfl_table.proofs.Keyed.{true_is_false}
use Rattle.pfl_table.proofs.Putting.{names-apart, table-changed}
use Rattle.pfl_table.proofs.Replaced.{table-others}
use Rattle.pfl_table.proofs.Storing.{by_name-found, NamePlace, name-place, name-none, one-counted, may-change, stored-renewed, changes-row}
use Rattle.pfl_table.proofs.Viewed.{get-rows_of}
use Rattle.pfl_table.proofs.stored.Stored.renew.Goals as goal

pub unreachable-requires : goal.unreachable-requires
unreachable-requires g c =
    let links = c.args.self.now.links in
    let none = name-none links c.name.result (sym c.in_default.is ∙ c.slot_near.ensures.slot) in
    true_is_false (sym (subst IsSome (ap (maps.get (rows_of links)) (sym c.name.ensures)
    ∙ (get-rows_of links c.name.result ∙ ap (option_map row_of_link) none)) c.requires.known))

pub at-requires : goal.at-requires
at-requires g c = record {
  stands = (name-place c.self.inside.rows c.self.inside.indexes c.self.invariant c.name.result c.in-Some.slot
      (subst (λ (f : Filing). Some c.in-Some.slot ≡ option_map slot_of_link (row_at name_cmp (key_of name_of) f.links c.name.result))
      (sym c.self.view_is) (sym c.in-Some.is ∙ c.slot_near.ensures.slot))).at;
}

pub change-requires : goal.change-requires
change-requires g c = record {
  stands = (name-place c.self.inside.rows c.self.inside.indexes c.self.invariant c.name.result c.in-Some.slot
      (subst (λ (f : Filing). Some c.in-Some.slot ≡ option_map slot_of_link (row_at name_cmp (key_of name_of) f.links c.name.result))
      (sym c.self.view_is) (sym c.in-Some.is ∙ c.slot_near.ensures.slot))).at;
}

pub refile-requires : goal.refile-requires
refile-requires g c =
    let rows = c.self.inside.rows in
    let place = name-place rows c.self.inside.indexes c.self.invariant c.name.result c.in-Some.slot
    (subst (λ (f : Filing). Some c.in-Some.slot ≡ option_map slot_of_link (row_at name_cmp (key_of name_of) f.links c.name.result))
    (sym c.self.view_is) (sym c.in-Some.is ∙ c.slot_near.ensures.slot)) in
    record {
      changes = may-change rows c.self.inside.indexes c.self.invariant
          (omega (arith, c.known-3.ensures.lists.few, one-counted rows.lists c.self.invariant.one)) c.known-3.ensures.lists c.in-Some.slot
          c.at.result.now place.at place.here (c.at.ensures.value place.at);
    }

-- the row that stood there
pub invariant_of-self : goal.invariant_of-self
invariant_of-self g c =
    let rows = c.self.inside.rows in
    let old = c.args.self.now in
    let row = c.args.row.now in
    let are = c.known-2.ensures.filed in
    let place : NamePlace rows c.in-Some.slot c.name.result =
    name-place rows c.self.inside.indexes c.self.invariant c.name.result c.in-Some.slot
    (subst (λ (f : Filing). Some c.in-Some.slot ≡ option_map slot_of_link (row_at name_cmp (key_of name_of) f.links c.name.result))
    (sym c.self.view_is) (sym c.in-Some.is ∙ c.slot_near.ensures.slot)) in
    let links = links_of rows 0 in
    let there = subst (λ (f : Filing). maps.get (rows_of f.links) row.state.name ≡ Some place.at.value) c.self.view_is
    (ap (maps.get (rows_of links)) (sym c.name.ensures) ∙ (get-rows_of links c.name.result ∙ ap (option_map row_of_link) place.is)) in
    let same : SameKeys place.at.value row = subst (λ (o : Option Row). IfSome o (λ was. SameKeys was row)) there c.requires.keys in
    let split = ap (λ (f : Filing). f.links) (sym c.self.view_is) ∙ (sym (ap (links_of rows) place.here) ∙ place.at.split) in
    stored-renewed rows _ c.self.inside.indexes _ c.self.invariant c.known-3.ensures.lists c.in-Some.slot c.at.result.now row place.at
    place.here (c.at.ensures.value place.at) (c.change.ensures.changed place.at) c.refile.ensures.refiled same
    (sym (by_name-found (place.at.front ++ place.at.back) row.state.name)
    ∙ (table-others old row are.stated c.known.ensures
    (names-apart old are) c.requires.table c.in-Some.slot place.at.value place.at.front place.at.back split same.name).name) c.known.ensures

pub returns : goal.returns
returns g c =
    let rows = c.self.inside.rows in
    let old = c.args.self.now in
    let row = c.args.row.now in
    let place : NamePlace rows c.in-Some.slot c.name.result =
    name-place rows c.self.inside.indexes c.self.invariant c.name.result c.in-Some.slot
    (subst (λ (f : Filing). Some c.in-Some.slot ≡ option_map slot_of_link (row_at name_cmp (key_of name_of) f.links c.name.result))
    (sym c.self.view_is) (sym c.in-Some.is ∙ c.slot_near.ensures.slot)) in
    let former = subst (λ (f : Filing). Some c.at.result.now ≡ option_map row_of_link (row_at name_cmp (key_of name_of) f.links row.state.name)) c.self.view_is
    (ap Some (c.at.ensures.value place.at) ∙ (sym (ap (option_map row_of_link) place.is)
    ∙ ap (λ (n : StateName). option_map row_of_link (row_at name_cmp (key_of name_of) (links_of rows 0) n)) c.name.ensures)) in
    record {
      set = table-changed old _ c.at.result.now row former
          (subst (λ (f : Filing). ChangesRow f
          (record { links = links_of c.change.new.self 0; limit = c.change.new.self.limit }) c.at.result.now row) c.self.view_is
          (changes-row rows _ c.self.inside.indexes c.self.invariant c.in-Some.slot c.at.result.now row place.at place.here
          (c.at.ensures.value place.at) (c.change.ensures.changed place.at))) c.known-2.ensures.filed;
    }
