use Rattle.std.proofs.Common.{◌<◌, ℕ, List, length, sym, subst, arith}
use Rattle.pfl_table.proofs.Counted.{counted-within}
use Rattle.pfl_table.proofs.counts.RuleCounts.less.Goals as goal

pub index_mut-requires : goal.index_mut-requires
index_mut-requires g c =
    let rule = c.in-Some.rule in
    let within : rule < length c.self.inside.counts.items =
    subst (λ (counts : List ℕ). rule < length counts) (sym c.self.view_is)
    (counted-within c.args.self.now rule c.args.rule c.in-Some.is (c.requires.counted rule)) in
    omega arith
