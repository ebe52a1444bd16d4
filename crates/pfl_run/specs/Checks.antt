-- What a check of a script does (this project's profile).
use Rattle.std.specs.Prelude.{◌≡◌, ℕ, List, Option, ◌⊎◌}
use Rattle.std.specs.Io.KnownBytes.{Keeps}
use Rattle.pfl_rules.specs.Rules.{Rules}
use Rattle.pfl_language.specs.declared.limits.Limits.{Limits}
use Rattle.pfl_script.specs.declared.fault.EngineFault.{EngineFault}
use Rattle.pfl_script.specs.Checks.{ChecksUntil, ChecksWhole}
use Rattle.pfl_run.specs.declared.fault.RunFault.{RunFault}
use Rattle.pfl_run.specs.Faults.{of_engine}
use Rattle.pfl_run.specs.Runs.{IsSetup, IsSetupStop}

-- a setup was read and all lines after it were checked, of which this many are faulty
pub record ChecksToEnd (old new : Option (List ℕ)) (w v : Option (List ℕ)) (bad : ℕ) : Type 0 where
  pub mid : Option (List ℕ)
  pub number : ℕ
  pub limits : Limits
  pub rules_a : Rules
  pub rules_b : Rules
  pub good : ℕ
  pub setup : IsSetup old mid number limits rules_a rules_b
  pub checks : ChecksWhole mid new number w v good bad

-- a setup was read, and a fault of a device, or too many turns, stopped the check of the lines after it
pub record StopsBehind (fault : RunFault) (old : Option (List ℕ)) (w v : Option (List ℕ)) : Type 0 where
  pub why : EngineFault
  pub fault_is : fault ≡ of_engine why
  pub mid : Option (List ℕ)
  pub new : Option (List ℕ)
  pub number : ℕ
  pub limits : Limits
  pub rules_a : Rules
  pub rules_b : Rules
  pub setup : IsSetup old mid number limits rules_a rules_b
  pub until : ChecksUntil why mid new number w v

-- why a check stopped: there was no setup, and nothing was written; or it stopped after the setup
abbrev pub IsCheckStop : RunFault → Option (List ℕ) → Option (List ℕ) → Option (List ℕ) → Type 0
IsCheckStop fault old w v = (IsSetupStop fault old × Keeps w v) ⊎ StopsBehind fault old w v
