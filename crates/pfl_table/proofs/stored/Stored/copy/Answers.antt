use Rattle.std.proofs.Common.{sym, subst}
use Rattle.pfl_table.specs.inner.Filed.{IsStored}
use Rattle.pfl_table.proofs.stored.Stored.copy.Goals as goal

pub invariant_of-result : goal.invariant_of-result
invariant_of-result g c =
    subst (λ rows. IsStored rows c.in_ok-indexes.indexes) (sym c.in_ok-rows.ensures.same)
    (subst (λ indexes. IsStored c.self.inside.rows indexes) (sym c.in_ok-indexes.ensures.same) c.self.invariant)
