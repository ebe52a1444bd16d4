use Rattle.std.proofs.Common.{◌∙◌, ◌≡◌, ◌++◌, List, ap, length, arith}
use Rattle.std.specs.Prelude.{vec_capacity}
use Rattle.pfl_containers.specs.inner.Rings.{Fits}
use Rattle.pfl_containers.proofs.RingNodes.{node_of-same}
use Rattle.pfl_containers.proofs.chains.Chains.copy.Goals as goal

pub invariant_of-result : goal.invariant_of-result
invariant_of-result g c =
    let rings = c.in_ok-rings.rings in
    let same = c.in_ok-rings.ensures in
    let was = c.self.invariant.1 in
    let nodes = node_of-same rings c.self.inside.rings same.limit same.nodes same.heads in
    let values : c.extend_from_slice.new.self.items ≡ c.self.inside.values.items =
    c.in_ok-extend_from_slice.ensures.items
    ∙ (ap (λ (vs : List g.row.V.Denot). vs ++ c.deref.result.now) c.in_ok-values.ensures.items ∙ c.deref.ensures.value) in
    let fits : Fits rings (length c.extend_from_slice.new.self.items) (vec_capacity c.extend_from_slice.new.self) c.self.inside.lists = record {
      used = omega (arith, ap length same.nodes, was.used, ap length values);
      heads = ap length same.heads ∙ was.heads;
      node_room = omega (arith, same.limit, same.room);
      value_room = omega (arith, same.limit, c.in_ok-values.ensures.capacity, c.extend_from_slice.ensures.capacity);
    } in
    (rw (nodes, values, same.limit) c.self.invariant.0, fits)

pub returns : goal.returns
returns g c =
    let same = c.in_ok-rings.ensures in
    let nodes = node_of-same c.in_ok-rings.rings c.self.inside.rings same.limit same.nodes same.heads in
    let values : c.extend_from_slice.new.self.items ≡ c.self.inside.values.items =
    c.in_ok-extend_from_slice.ensures.items
    ∙ (ap (λ (vs : List g.row.V.Denot). vs ++ c.deref.result.now) c.in_ok-values.ensures.items ∙ c.deref.ensures.value) in
    record { same = rw (nodes, values, same.limit) c.self.view_is }
