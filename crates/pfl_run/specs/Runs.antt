-- What a run of the laboratory does (this project's profile).
use Rattle.std.specs.Prelude.{◌≡◌, ℕ, ◌*◌, ◌==◌, Bool, true, false, List, take, Option, Some, None, ◌⊎◌, if◌then◌else◌}
use Rattle.std.specs.Io.KnownBytes.{Appends, Keeps}
use Rattle.pfl_base.specs.Counts.{Calls, CountsWithin}
use Rattle.pfl_rules.specs.declared.fault.RuleFault.{RuleFault}
use Rattle.pfl_rules.specs.Rules.{Rules}
use Rattle.pfl_language.specs.declared.limits.Limits.{Limits}
use Rattle.pfl_script.specs.world.declared.fault.WorldFault.{WorldFault}
use Rattle.pfl_script.specs.world.Worlds.{new_world, world_fault}
use Rattle.pfl_script.specs.timeline.Timelines.{Timeline, new_timeline}
use Rattle.pfl_script.specs.Answers.{RunsWhole, RunsUntil}
use Rattle.pfl_script.specs.Setups.{IsFaultyAt, IsUnopened, HasRuleFault, ReadsSetupTo}
use Rattle.pfl_run.specs.declared.fault.RunFault.{RunFault}
use Rattle.pfl_run.specs.declared.fault.RunFault.TheVariants as fault
use Rattle.pfl_script.specs.declared.fault.EngineFault.{EngineFault}
use Rattle.pfl_run.specs.Faults.{fault_text, fault_status, of_engine}

-- the lines up to number n are a setup whose limits have no fault
abbrev pub IsSetup : Option (List ℕ) → Option (List ℕ) → ℕ → Limits → Rules → Rules → Type 0
IsSetup old new n limits rules_a rules_b = ReadsSetupTo old new n limits rules_a rules_b × (world_fault limits ≡ None)

-- the lines up to number n set a pair up, and its branch `main` is empty
pub record SetsUp (old new : Option (List ℕ)) (n : ℕ) (t : Timeline) : Type 0 where
  pub limits : Limits
  pub rules_a : Rules
  pub rules_b : Rules
  pub setup : IsSetup old new n limits rules_a rules_b
  pub opening : t ≡ new_timeline (new_world limits rules_a rules_b)

-- all lines were executed, and this many of those after the setup are faulty
pub record RunsToEnd (old new : Option (List ℕ)) (w v : Option (List ℕ)) (bad : ℕ) : Type 0 where
  pub mid : Option (List ℕ)
  pub number : ℕ
  pub first : Timeline
  pub last : Timeline
  pub lines : ℕ
  pub sets_up : SetsUp old mid number first
  pub runs : RunsWhole mid new first last w v lines bad

-- a pair was set up, and first lines after the setup were executed, up to this fault
pub record RunsToFault (fault : RunFault) (old : Option (List ℕ)) (w v : Option (List ℕ)) : Type 0 where
  pub why : EngineFault
  pub fault_is : fault ≡ of_engine why
  pub mid : Option (List ℕ)
  pub new : Option (List ℕ)
  pub number : ℕ
  pub first : Timeline
  pub last : Timeline
  pub sets_up : SetsUp old mid number first
  pub until : RunsUntil why mid new first last w v

-- the lines up to number n set up limits that are none, for this reason
pub record HasWorldFault (old : Option (List ℕ)) (n : ℕ) (why : WorldFault) : Type 0 where
  pub mid : Option (List ℕ)
  pub limits : Limits
  pub rules_a : Rules
  pub rules_b : Rules
  pub setup : ReadsSetupTo old mid n limits rules_a rules_b
  pub first : world_fault limits ≡ Some why

-- the lines up to number n set up rules that are none, for this reason
abbrev pub HasRuleFaultAt : Option (List ℕ) → ℕ → RuleFault → Type 0
HasRuleFaultAt old n why = (mid : Option (List ℕ)) × HasRuleFault old mid n why

-- why no pair was set up
abbrev pub IsSetupStop : RunFault → Option (List ℕ) → Type 0
IsSetupStop (fault.Line n why) old = IsFaultyAt old n why
IsSetupStop (fault.Rule n why) old = HasRuleFaultAt old n why
IsSetupStop (fault.World n why) old = HasWorldFault old n why
IsSetupStop (fault.NoOpen n) old = IsUnopened old n
IsSetupStop fault.Write old = ⊥
IsSetupStop fault.Network old = ⊥
IsSetupStop fault.NoThread old = ⊥
IsSetupStop _ old = Unit {0}

-- why a run stopped: no pair was set up, and nothing was written; or it stopped after the setup
abbrev pub IsStop : RunFault → Option (List ℕ) → Option (List ℕ) → Option (List ℕ) → Type 0
IsStop fault old w v = (IsSetupStop fault old × Keeps w v) ⊎ RunsToFault fault old w v

-- where a fault says so, the reader has failed, there were too many turns, or the writer has failed
abbrev pub IsDeviceFault : RunFault → Bool → Type 0 → Bool → Type 0
IsDeviceFault fault.Read failed IsLong broken = failed ≡ true
IsDeviceFault fault.Write failed IsLong broken = broken ≡ true
IsDeviceFault fault.TooManyTurns failed IsLong broken = IsLong
IsDeviceFault _ failed IsLong broken = Unit {0}

-- the same of devices: where there were too many turns, at least 16777216 calls of `read` were made, those of the setup among them
abbrev pub HasFailed : RunFault → Bool → Calls → Calls → Bool → Type 0
HasFailed fault failed old new broken = IsDeviceFault fault failed (CountsWithin 16777216 (2 * 16777216) old new) broken

-- the exit status after this many faulty lines
abbrev pub ended_status : ℕ → ℕ
ended_status bad = if bad == 0 then 0 else 1

-- a text was written: whole, unless the writer has failed, and else in part
pub record IsPrinted (text : List ℕ) (w v : Option (List ℕ)) (failed : Bool) : Type 0 where
  pub whole : failed ≡ false → Appends w v text
  pub part : (n : ℕ) × Appends w v (take n text)

-- all lines were read, this many of them faulty, and no fault is reported
pub record Ends (Reads : ℕ → Type 0) (f g : Option (List ℕ)) (status : ℕ) : Type 0 where
  pub bad : ℕ
  pub reads : Reads bad
  pub quiet : Keeps f g
  pub exit : status ≡ ended_status bad

-- it stopped for this reason, the devices have failed where it says so, and its fault is written; `failed`: the device that it is written
-- to has failed
pub record Stops (IsWhy IsBroken : RunFault → Type 0) (f g : Option (List ℕ)) (failed : Bool) (status : ℕ) : Type 0 where
  pub fault : RunFault
  pub why : IsWhy fault
  pub device : IsBroken fault
  pub printed : IsPrinted (fault_text fault) f g failed
  pub exit : status ≡ fault_status fault
