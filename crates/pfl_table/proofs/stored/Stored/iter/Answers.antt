use Rattle.std.proofs.Common.{arith}
use Rattle.pfl_table.proofs.stored.Stored.iter.Goals as goal

pub iter-requires : goal.iter-requires
iter-requires g c = record { list = omega (arith, c.self.invariant.one) }

pub returns : goal.returns
returns g c = record { rows = rw (← c.self.view_is) c.iter.ensures.values }
