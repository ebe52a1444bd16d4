use Rattle.std.specs.Prelude.{refl}
use Rattle.pfl_table.proofs.indexes.Indexes.copy.Goals as goal

pub returns : goal.returns
returns g c = record {
  same = rw (
    c.in_ok-names.ensures.same,
    c.in_ok-order.ensures.same,
    c.in_ok-wires.ensures.same,
    c.in_ok-stacks.ensures.same,
    c.in_ok-expiries.ensures.same,
    c.in_ok-rules.ensures.same,
  ) refl;
}
