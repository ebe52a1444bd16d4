use Rattle.std.proofs.Common.{◌≡◌, ◌↔◌, IsTrue, refl, ◌∙◌, ap, sym, subst}
use Rattle.std.specs.Option.{option_map}
use Rattle.pfl_base.specs.Names.{name_cmp}
use Rattle.pfl_edits.proofs.ForCallers.{row_at}
use Rattle.pfl_containers.specs.Lists.{Place, links_of}
use Rattle.pfl_containers.specs.SlotIndexes.{key_of}
use Rattle.pfl_containers.specs.declared.by_name.ByName.{ByName}
use Rattle.pfl_containers.specs.inner.NameOrder.{by_name_total, by_name_exact}
use Rattle.pfl_containers.proofs.ForCallers.{tagged-found, tagged-stands}
use Rattle.pfl_table.specs.inner.Ordering.{by_name, name_tag}
use Rattle.pfl_table.specs.inner.Filed.{Filing, name_of, slot_of_link}
use Rattle.pfl_table.proofs.Keyed.{true_is_false}
use Rattle.pfl_table.proofs.Storing.{by_name-found, stands-place}
use Rattle.pfl_table.proofs.stored.Stored.slot_of_name.Goals as goal

pub find-requires : goal.find-requires
find-requires g c = record {
  callable = λ slot has.
      let at = tagged-stands by_name_total by_name_exact by_name name_tag (links_of c.self.inside.rows 0) _ slot _ c.self.invariant.indexes.names has in
      stands-place c.self.inside.rows c.self.invariant.one slot at.0 at.1;
}

pub returns : goal.returns
returns g c =
    let rows = c.self.inside.rows in
    record {
      slot = subst (λ (f : Filing). c.find.result ≡ option_map slot_of_link (row_at name_cmp (key_of name_of) f.links c.args.name)) c.self.view_is
          (tagged-found by_name_total by_name_exact by_name name_tag (λ slot is_it. (at : Place rows slot)
          → IsTrue is_it ↔ (name_of at.value ≡ c.args.name)) (links_of rows 0) _
          (record { 0 = c.args.name }) c.tag_of_name.result c.find.result c.self.invariant.indexes.names c.tag_of_name.ensures.tag
          c.find.ensures.found
          (λ slot v stands its. ap (λ n. record { 0 = n }) ((its (stands-place rows c.self.invariant.one slot v stands)).0 refl))
          (λ slot v stands other its. true_is_false (sym ((other (stands-place rows c.self.invariant.one slot v stands)).1 (ap (λ (n : ByName). n.0) its))))
          ∙ ap (option_map slot_of_link) (by_name-found (links_of rows 0) c.args.name));
    }
