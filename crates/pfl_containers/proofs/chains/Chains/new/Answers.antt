use Rattle.std.proofs.Common.{◌+◌, ap, length, arith}
use Rattle.std.specs.Prelude.{vec_capacity}
use Rattle.pfl_containers.specs.inner.Rings.{Fits, node_of}
use Rattle.pfl_containers.proofs.Made.{kept-alone}
use Rattle.pfl_containers.proofs.chains.Chains.new.Goals as goal

pub invariant_of-result : goal.invariant_of-result
invariant_of-result g c =
    let rings = c.in_ok-rings.rings in
    let made = kept-alone {V = g.row.V.Denot} (node_of rings) rings.limit c.args.lists
    (omega (arith, c.in_ok-rings.ensures.limit, c.requires.few)) (c.args.lists + 1) (omega arith) c.in_ok-rings.ensures.alone in
    let fits : Fits rings 0 (vec_capacity c.in_ok-values.values) c.args.lists = record {
      used = ap length c.in_ok-rings.ensures.unused;
      heads = omega (arith, c.in_ok-rings.ensures.heads);
      node_room = omega (arith, c.in_ok-rings.ensures.limit, c.in_ok-rings.ensures.room);
      value_room = omega (arith, c.in_ok-rings.ensures.limit, c.in_ok-values.ensures.exact);
    } in
    rw c.in_ok-values.ensures.items (made.0, fits)

pub returns-clause-empty : goal.returns-clause-empty
returns-clause-empty g c =
    let rings = c.in_ok-rings.rings in
    let made = kept-alone {V = g.row.V.Denot} (node_of rings) rings.limit c.args.lists
    (omega (arith, c.in_ok-rings.ensures.limit, c.requires.few)) (c.args.lists + 1) (omega arith) c.in_ok-rings.ensures.alone in
    rw c.in_ok-values.ensures.items made.1
