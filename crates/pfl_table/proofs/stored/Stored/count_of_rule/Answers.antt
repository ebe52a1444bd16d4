use Rattle.std.proofs.Common.{◌∙◌, subst}
use Rattle.pfl_table.specs.inner.Counts.{AreCounts}
use Rattle.pfl_table.specs.inner.Filed.{Filing}
use Rattle.pfl_table.proofs.stored.Stored.count_of_rule.Goals as goal

pub returns : goal.returns
returns g c =
    let counts = subst (λ (f : Filing). AreCounts f.links c.self.inside.indexes.rules) c.self.view_is c.self.invariant.indexes.rules in
    record { count = c.count_of.ensures.count ∙ counts c.args.rule }
