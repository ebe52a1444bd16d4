-- A fault of limits is the world's.
use Rattle.std.specs.Prelude.{◌≡◌, Option, Some, None}
use Rattle.std.specs.Option.{option_map}
use Rattle.std.proofs.Common.{ap, sym, ◌∙◌}
use Rattle.pfl_language.specs.declared.limits.Limits.{Limits}
use Rattle.pfl_language.specs.declared.limits.LimitFault.{LimitFault}
use Rattle.pfl_language.specs.declared.limits.LimitFault.TheVariants as limit
use Rattle.pfl_language.specs.Limits.{limit_fault}
use Rattle.pfl_world.specs.declared.fault.WorldFault.TheVariants as world
use Rattle.pfl_world.specs.Worlds.{from_limits, world_fault}

module _ (l : Limits) (o : Option LimitFault) (told : o ≡ limit_fault l) where
  pub too_small : o ≡ Some limit.TooSmall → Some world.TooSmall ≡ world_fault l
  too_small is = ap (λ (x : Option LimitFault). option_map from_limits x) (sym is ∙ told)

  pub too_large : o ≡ Some limit.TooLarge → Some world.TooLarge ≡ world_fault l
  too_large is = ap (λ (x : Option LimitFault). option_map from_limits x) (sym is ∙ told)

  pub no_fault : o ≡ None → None ≡ world_fault l
  no_fault is = ap (λ (x : Option LimitFault). option_map from_limits x) (sym is ∙ told)
