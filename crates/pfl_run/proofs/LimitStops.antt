-- A fault of limits is the world's, as the pair's own proofs have it, and stops a setup.
use Rattle.std.proofs.Common.{sym, ◌∙◌, subst}
use Rattle.std.specs.Prelude.{◌≡◌, ℕ, List, Option, Some, None}
use Rattle.pfl_rules.specs.Rules.{Rules}
use Rattle.pfl_language.specs.declared.limits.Limits.{Limits}
use Rattle.pfl_language.specs.declared.limits.LimitFault.{LimitFault}
use Rattle.pfl_language.specs.declared.limits.LimitFault.TheVariants as limit
use Rattle.pfl_language.specs.Limits.{limit_fault}
use Rattle.pfl_script.proofs.ForCallers.world as of_pair
use Rattle.pfl_script.specs.world.declared.fault.WorldFault.TheVariants as world
use Rattle.pfl_script.specs.world.Worlds.{world_fault}
use Rattle.pfl_script.specs.Setups.{ReadsSetupTo}
use Rattle.pfl_run.specs.declared.fault.RunFault.{RunFault}
use Rattle.pfl_run.specs.declared.fault.RunFault.TheVariants as fault
use Rattle.pfl_run.specs.Runs.{IsSetupStop}
use Rattle.pfl_run.specs.inner.Runs.{IsLimitsStop}

module _ (l : Limits) (o : Option LimitFault) (printed : o ≡ limit_fault l) where
  pub too_small : o ≡ Some limit.TooSmall → Some world.TooSmall ≡ world_fault l
  too_small is = of_pair.too_small l o printed is

  pub too_large : o ≡ Some limit.TooLarge → Some world.TooLarge ≡ world_fault l
  too_large is = of_pair.too_large l o printed is

  pub no_fault : o ≡ None → None ≡ world_fault l
  no_fault is = of_pair.no_fault l o printed is

-- the setup that was read up to line n has limits with a fault
pub limits_stop : (why : RunFault) (old new : Option (List ℕ)) (m n : ℕ) (limits : Limits) (a b : Rules) → ReadsSetupTo old new n limits a b → m ≡ n →
    IsLimitsStop why m (world_fault limits) → IsSetupStop why old
limits_stop (fault.World k why) old new m n limits a b reads same stop = record {
  mid = new;
  limits = limits;
  rules_a = a;
  rules_b = b;
  setup = subst (λ (i : ℕ). ReadsSetupTo old new i limits a b) (sym (stop.0 ∙ same)) reads;
  first = stop.1;
}
limits_stop (fault.Line k why) old new m n limits a b reads same stop = absurd stop
limits_stop (fault.Rule k why) old new m n limits a b reads same stop = absurd stop
limits_stop (fault.NoOpen k) old new m n limits a b reads same stop = absurd stop
limits_stop fault.Read old new m n limits a b reads same stop = absurd stop
limits_stop fault.Write old new m n limits a b reads same stop = absurd stop
limits_stop fault.TooManyTurns old new m n limits a b reads same stop = absurd stop
limits_stop fault.Network old new m n limits a b reads same stop = absurd stop
limits_stop fault.NoThread old new m n limits a b reads same stop = absurd stop
limits_stop fault.NoMemory old new m n limits a b reads same stop = absurd stop
