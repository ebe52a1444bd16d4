-- What a server reports on its standard error (this project's profile).
use Rattle.std.specs.Prelude.{◌≡◌, ◌≤◌, ℕ, ◌+◌, zero, suc, Bool, true, false, ◌⊎◌, List, [], ◌∷◌, ◌++◌, Option, Some, None, Result, Ok, Err, codes}
use Rattle.std.specs.Io.KnownBytes.{Keeps}
use Rattle.pfl_run.specs.Faults.{fault_status, fault_text, of_engine}
use Rattle.pfl_run.specs.Runs.{IsPrinted}
use Rattle.pfl_run.specs.declared.fault.RunFault.{RunFault}
use Rattle.pfl_run.specs.script.declared.engine.Ended.{Ended}
use Rattle.pfl_run.specs.script.declared.fault.EngineFault.{EngineFault}

-- a browser was turned away
abbrev pub browser_text : List ℕ
browser_text = codes "pfl_lab: a browser was turned away\n"

-- as many were, a line for each
abbrev pub browser_lines : ℕ → List ℕ
browser_lines zero = []
browser_lines (suc n) = browser_text ++ browser_lines n

-- the fault of a session's end, if it had one
abbrev pub fault_in : Result Ended EngineFault → Option EngineFault
fault_in (Ok _) = None
fault_in (Err why) = Some why

-- the first of two faults
abbrev pub first_of : Option EngineFault → Option EngineFault → Option EngineFault
first_of None other = other
first_of (Some why) other = Some why

-- the fault of the first session that had one
abbrev pub first_fault : List (Result Ended EngineFault) → Option EngineFault
first_fault [] = None
first_fault (result ∷ results) = first_of (fault_in result) (first_fault results)

-- the line of that fault, if there is one, and the exit status
abbrev pub first_text : Option EngineFault → List ℕ
first_text None = []
first_text (Some why) = fault_text (of_engine why)

abbrev pub first_status : Option EngineFault → ℕ
first_status None = 0
first_status (Some why) = fault_status (of_engine why)

-- a text was written to a device, unless a call of it had failed before: then nothing was
pub record PrintsOn (text : List ℕ) (w v : Option (List ℕ)) (before after : Bool) : Type 0 where
  pub spared : before ≡ true → Keeps w v × (after ≡ true)
  pub printed : before ≡ false → IsPrinted text w v after

-- all sessions have ended. A line was written for each browser that the doors turned away, and for each that had taken one of the n seats;
-- then the first fault of the sessions, if one had any
pub record HostServes (turned n : ℕ) (IsEnd : Option EngineFault → Type 0) (f g : Option (List ℕ)) (failed : Bool) (status : ℕ) : Type 0 where
  pub first : Option EngineFault
  pub end : IsEnd first
  pub seated : ℕ
  pub few : seated ≤ n
  pub reports : IsPrinted (browser_lines (turned + seated) ++ first_text first) f g failed
  pub exit : status ≡ first_status first

-- it stopped for this reason, which was reported after the browsers that the doors had turned away; where nobody had listened there are none
pub record HostStops (turned : ℕ) (IsWhy IsBroken : RunFault → Type 0) (f g : Option (List ℕ)) (failed : Bool) (status : ℕ) : Type 0 where
  pub fault : RunFault
  pub why : IsWhy fault
  pub device : IsBroken fault
  pub browsers : ℕ
  pub all : (browsers ≡ 0) ⊎ (browsers ≡ turned)
  pub printed : IsPrinted (browser_lines browsers ++ fault_text fault) f g failed
  pub exit : status ≡ fault_status fault

-- as many browsers more were reported as were turned away
pub record NotesBrowsers (before after : ℕ) (w v : Option (List ℕ)) (failed broken : Bool) : Type 0 where
  pub more : ℕ
  pub turned : after ≡ before + more
  pub prints : PrintsOn (browser_lines more) w v failed broken

-- the browsers that were turned away were reported, if somebody listened
pub record NotesIfOpen (turned : ℕ) (w v : Option (List ℕ)) (failed broken : Bool) : Type 0 where
  pub browsers : ℕ
  pub all : (browsers ≡ 0) ⊎ (browsers ≡ turned)
  pub prints : PrintsOn (browser_lines browsers) w v failed broken
