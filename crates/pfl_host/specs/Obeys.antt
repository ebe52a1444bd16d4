-- What the program does with its words, over any devices (this project's profile).
use Rattle.std.specs.Prelude.{◌≡◌, ◌<◌, ◌*◌, ℕ, Bool, List, [], length, Option, Some, ◌⊎◌, Result, Ok, Err}
use Rattle.pfl_base.specs.Counts.{Calls, CountsWithin}
use Rattle.clap.specs.Faults.{fault_of}
use Rattle.clap.specs.Simple.{subcommand_of}
use Rattle.clap.specs.Values.{kind_of}
use Rattle.clap.specs.declared.error.kind.ErrorKind.{ErrorKind}
use Rattle.clap.specs.declared.error.kind.ErrorKind.TheVariants.{DisplayHelp, DisplayVersion}
use Rattle.pfl_run.specs.declared.fault.RunFault.TheVariants as lab
use Rattle.pfl_run.specs.declared.mode.Mode.{Mode}
use Rattle.pfl_run.specs.declared.mode.Mode.TheVariants.{Run, Check, Serve}
use Rattle.pfl_run.specs.declared.mode.WordsFault.{WordsFault}
use Rattle.pfl_run.specs.declared.mode.WordsFault.TheVariants as fault
use Rattle.pfl_run.specs.Checks.{ChecksToEnd, IsCheckStop}
use Rattle.pfl_run.specs.Faults.{fault_text}
use Rattle.pfl_run.specs.Modes.{lab_app, mode_word, subcommand_name, words_status, HasNumbers, IsWordsFault}
use Rattle.pfl_run.specs.Runs.{Ends, HasFailed, IsStop, IsPrinted, RunsToEnd, Stops}
use Rattle.pfl_base.specs.declared.input.Input as Input
use Rattle.pfl_base.specs.declared.output.Output as Output
use Rattle.pfl_host.specs.Reports.{HostServes, HostStops}
use Rattle.pfl_doors.specs.Visits.{Entrance}
use Rattle.pfl_host.specs.Servers.{IsServeStop, ServesFromDevice}

-- a device that is read from, before and after; what it had left to read, and has left; its calls of `read`; whether one has failed
pub record Reader (D : Type 0) : Type 0 where
  pub old : D
  pub new : D
  pub before : Option (List ℕ)
  pub after : Option (List ℕ)
  pub calls_before : Calls
  pub calls_after : Calls
  pub failed : Bool

-- what is seen of such a device
abbrev pub seen_reader : {D : Type 0} → (D → Option (List ℕ)) → (D → Calls) → (D → Bool) → D → D → Reader D
seen_reader left reads has_failed old new = record {
  old = old;
  new = new;
  before = left old;
  after = left new;
  calls_before = reads old;
  calls_after = reads new;
  failed = has_failed new;
}

-- at most `most` calls of `read` were made, of a device that counts them
abbrev pub CallsAtMost : {D : Type 0} → ℕ → Reader D → Type 0
CallsAtMost most r = CountsWithin 0 most r.calls_before r.calls_after

-- a device that is written to, before and after; what was written to it, where that is known; whether a call of it has failed
pub record Device (D : Type 0) : Type 0 where
  pub old : D
  pub new : D
  pub before : Option (List ℕ)
  pub after : Option (List ℕ)
  pub failed : Bool

-- what is seen of such a device
abbrev pub seen : {D : Type 0} → (D → Option (List ℕ)) → (D → Bool) → D → D → Device D
seen written has_failed old new =
    record { old = old; new = new; before = written old; after = written new; failed = has_failed new }

-- nothing was done to the device
abbrev pub IsUntouched : {D : Type 0} → Device D → Type 0
IsUntouched d = d.new ≡ d.old

-- some text was written, and not an empty one: whole, unless the device has failed, and else in part
abbrev pub PrintsText : {D : Type 0} → Device D → Type 0
PrintsText d = (text : List ℕ) × (0 < length text) × IsPrinted text d.before d.after d.failed

-- want of memory was reported
abbrev pub ReportsNoMemory : {D : Type 0} → Device D → Type 0
ReportsNoMemory d = IsPrinted (fault_text lab.NoMemory) d.before d.after d.failed

-- a text was written for an error of this kind: to the writer where the words call for help or for the version, else to faults
abbrev pub ReportsKind : {W F : Type 0} → ErrorKind → Device W → Device F → Type 0
ReportsKind DisplayHelp writer faults = PrintsText writer × IsUntouched faults
ReportsKind DisplayVersion writer faults = PrintsText writer × IsUntouched faults
ReportsKind _ writer faults = IsUntouched writer × PrintsText faults

-- the reason why words ask for no mode was reported, or else that there was no memory for that
abbrev pub ReportsWords : {W F : Type 0} → WordsFault → Device W → Device F → Type 0
ReportsWords (fault.Words e) writer faults = ReportsKind (kind_of e) writer faults ⊎ (IsUntouched writer × ReportsNoMemory faults)
ReportsWords fault.NoMemory writer faults = IsUntouched writer × ReportsNoMemory faults

-- words are taken so: as a mode, which they name without a fault, with its numbers; or as none, for this reason
abbrev pub IsTaken : List (List ℕ) → Result Mode WordsFault → Type 0
IsTaken words (Ok mode) =
    (fault_of lab_app words ≡ []) × (subcommand_name words ≡ Some (mode_word mode)) × HasNumbers (subcommand_of lab_app words) mode
IsTaken words (Err why) = IsWordsFault (fault_of lab_app words) why

-- the lines of the reader are run, with this exit status
abbrev pub Runs : {R W F : Type 0} → Reader R → Device W → Device F → ℕ → Type 0
Runs reader writer faults status =
    Ends (RunsToEnd reader.before reader.after writer.before writer.after) faults.before faults.after status
    ⊎ Stops (λ why. IsStop why reader.before writer.before writer.after)
    (λ why. HasFailed why reader.failed reader.calls_before reader.calls_after writer.failed)
    faults.before faults.after faults.failed status

-- the lines of the reader are checked, with this exit status
abbrev pub Checks : {R W F : Type 0} → Reader R → Device W → Device F → ℕ → Type 0
Checks reader writer faults status =
    Ends (ChecksToEnd reader.before reader.after writer.before writer.after) faults.before faults.after status
    ⊎ Stops (λ why. IsCheckStop why reader.before writer.before writer.after)
    (λ why. HasFailed why reader.failed reader.calls_before reader.calls_after writer.failed)
    faults.before faults.after faults.failed status

-- doors, before and after, and what is seen of them
pub record Doors (D I W : Type 0) : Type 0 where
  pub old : D
  pub new : D
  pub after : Entrance I W

-- a lab of this many sessions is served on the port, with this exit status
abbrev pub ServesLab : {I W S R V F : Type 0} → Input.Ghosts I → Output.Ghosts W → (ℕ → Type 0) → ℕ → ℕ → Doors S I W → Reader R → Device V → Device F
    → ℕ → Type 0
ServesLab i o heard port sessions doors reader writer faults status =
    HostServes doors.after.turned sessions
    (ServesFromDevice i o heard doors.after port sessions reader.before reader.after writer.before writer.after)
    faults.before faults.after faults.failed status
    ⊎ HostStops doors.after.turned
    (λ why. IsServeStop i o heard doors.after port sessions why reader.before writer.before writer.after)
    (λ why. HasFailed why reader.failed reader.calls_before reader.calls_after writer.failed)
    faults.before faults.after faults.failed status

module _ {I W S : Type 0} (i : Input.Ghosts I) (o : Output.Ghosts W) (heard : ℕ → Type 0) (doors : Doors S I W) where
  -- what the program does with words that were taken so, and its exit status: a setup makes at most 16777216 calls of `read`, and with a run
  -- or a check after it at most twice as many; where the words ask for no mode it reads nothing. Only a server opens its doors
  abbrev pub Does : {R V F : Type 0} → Result Mode WordsFault → Reader R → Device V → Device F → ℕ → Type 0
  Does (Ok Run) reader writer faults status = (doors.new ≡ doors.old) × CallsAtMost (2 * 16777216) reader × Runs reader writer faults status
  Does (Ok Check) reader writer faults status = (doors.new ≡ doors.old) × CallsAtMost (2 * 16777216) reader × Checks reader writer faults status
  Does (Ok (Serve port sessions)) reader writer faults status =
      CallsAtMost 16777216 reader × ServesLab i o heard port sessions doors reader writer faults status
  Does (Err why) reader writer faults status =
      (doors.new ≡ doors.old) × (reader.new ≡ reader.old) × ReportsWords why writer faults × (status ≡ words_status why)

  -- the program does what its words ask for
  pub record Obeys {R V F : Type 0} (words : List (List ℕ)) (reader : Reader R) (writer : Device V) (faults : Device F) (status : ℕ) : Type 0 where
    pub how : Result Mode WordsFault
    pub taken : IsTaken words how
    pub does : Does how reader writer faults status
