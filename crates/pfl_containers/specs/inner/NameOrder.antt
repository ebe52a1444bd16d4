-- The order of names as keys is one that maps can go by.
use Rattle.std.specs.Cmp.{IsTotalOrder}
use Rattle.std.specs.FinMap.{IsAntisymmetric}
use Rattle.std.proofs.Common.{ap}
use Rattle.std.proofs.lemmas.Cmp.{on_total}
use Rattle.pfl_base.specs.declared.state_name.StateName.{StateName}
use Rattle.pfl_base.proofs.ForCallers.{names_total, names_exact}
use Rattle.pfl_containers.specs.NameKeys.{by_name_cmp}

-- the order is total,
pub by_name_total : IsTotalOrder by_name_cmp
by_name_total = on_total (λ n. n.0) names_total

-- and names that compare as equal are one
pub by_name_exact : IsAntisymmetric by_name_cmp
by_name_exact a b e = ap (λ (n : StateName). record { 0 = n }) (names_exact a.0 b.0 e)
