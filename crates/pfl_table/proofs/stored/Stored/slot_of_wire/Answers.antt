use Rattle.std.proofs.Common.{◌≡◌, ◌↔◌, IsTrue, refl, ◌∙◌, ap, sym, subst}
use Rattle.std.specs.Option.{option_map}
use Rattle.pfl_base.specs.declared.flow.Key.{Key}
use Rattle.pfl_edits.proofs.ForCallers.{row_at}
use Rattle.pfl_containers.specs.Lists.{Place, links_of}
use Rattle.pfl_containers.specs.SlotIndexes.{key_of}
use Rattle.pfl_containers.proofs.ForCallers.{tagged-found, tagged-stands}
use Rattle.pfl_table.specs.inner.Ordering.{flow_of, flow_cmp, flow_total, flow_exact, flow_tag}
use Rattle.pfl_table.specs.inner.Filed.{Filing, wire_flow, slot_of_link}
use Rattle.pfl_table.proofs.Keyed.{true_is_false}
use Rattle.pfl_table.proofs.Storing.{stands-place}
use Rattle.pfl_table.proofs.stored.Stored.slot_of_wire.Goals as goal

pub find-requires : goal.find-requires
find-requires g c = record {
  callable = λ slot has.
      let at = tagged-stands flow_total flow_exact wire_flow flow_tag (links_of c.self.inside.rows 0) _ slot _ c.self.invariant.indexes.wires has in
      stands-place c.self.inside.rows c.self.invariant.one slot at.0 at.1;
}

pub returns : goal.returns
returns g c =
    let rows = c.self.inside.rows in
    let key : Key = c.of-packed.result in
    let tag : c.tag_of_flow.result ≡ flow_tag (flow_of key) = c.tag_of_flow.ensures.tag ∙ sym (ap (λ (k : Key). flow_tag (flow_of k)) c.of-packed.ensures) in
    record {
      slot = subst (λ (f : Filing). c.find.result ≡ option_map slot_of_link (row_at flow_cmp (key_of wire_flow) f.links (flow_of key))) c.self.view_is
          (tagged-found flow_total flow_exact wire_flow flow_tag (λ slot is_it. (at : Place rows slot)
          → IsTrue is_it ↔ (wire_flow at.value ≡ flow_of key)) (links_of rows 0) _
          (flow_of key) c.tag_of_flow.result c.find.result c.self.invariant.indexes.wires tag c.find.ensures.found
          (λ slot v stands its. (its (stands-place rows c.self.invariant.one slot v stands)).0 refl)
          (λ slot v stands other its. true_is_false (sym ((other (stands-place rows c.self.invariant.one slot v stands)).1 its))))
          ∙ ap (λ (k : Key). option_map slot_of_link (row_at flow_cmp (key_of wire_flow) c.args.self.now.links (flow_of k))) c.of-packed.ensures;
    }
