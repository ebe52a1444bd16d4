use Rattle.std.proofs.Common.{rules}
use Rattle.std.proofs.lemmas.Nat.{or_lt}
use Rattle.pfl_base.proofs.flags.TcpFlags.with.Goals as goal

-- a union of two sets of six flags has no bit beyond them
pub invariant_of-result : goal.invariant_of-result
invariant_of-result c = rw (c.union.ensures tt) (search (rules, or_lt 6))
