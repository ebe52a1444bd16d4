-- Scaled timeouts that are kept.
use Rattle.std.specs.Prelude.{◌≡◌, ℕ}
use Rattle.pfl_rules.specs.declared.adaptive.Adaptive.{Adaptive}
use Rattle.pfl_rules.specs.Scaling.{scaled}
use Rattle.pfl_table.specs.declared.scales.ScaledTimeout.{ScaledTimeout}

-- its seconds are what its timeout is scaled to where there is this number of states
abbrev pub IsScaled : Adaptive → ℕ → ScaledTimeout → Type 0
IsScaled a states s = s.seconds ≡ scaled s.timeout a states
