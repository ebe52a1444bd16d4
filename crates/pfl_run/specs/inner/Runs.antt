-- Why limits of a setup are none.
use Rattle.std.specs.Prelude.{◌≡◌, ℕ, Option, Some}
use Rattle.pfl_script.specs.world.declared.fault.WorldFault.{WorldFault}
use Rattle.pfl_run.specs.declared.fault.RunFault.{RunFault}
use Rattle.pfl_run.specs.declared.fault.RunFault.TheVariants as fault

-- why limits of a setup, whose line `open` has this number, are none: their first fault
abbrev pub IsLimitsStop : RunFault → ℕ → Option WorldFault → Type 0
IsLimitsStop (fault.World m why) n first = (m ≡ n) × (first ≡ Some why)
IsLimitsStop _ n first = ⊥
