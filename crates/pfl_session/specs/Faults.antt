-- The messages of faults (this project's profile).
use Rattle.std.specs.Prelude.{ℕ, List, codes}
use Rattle.pfl_session.specs.declared.fault.AskFault.{AskFault}
use Rattle.pfl_session.specs.declared.fault.AskFault.TheVariants as ask
use Rattle.pfl_session.specs.declared.fault.LabFault.{LabFault}
use Rattle.pfl_session.specs.declared.fault.LabFault.TheVariants as lab

-- why there is no such lab
abbrev pub lab_fault_text : LabFault → List ℕ
lab_fault_text lab.Sessions = codes "no such number of sessions"
lab_fault_text lab.Journal = codes "no such limit of the journal"
lab_fault_text lab.NoMemory = codes "no memory"

-- why a call is not taken
abbrev pub ask_fault_text : AskFault → List ℕ
ask_fault_text ask.JournalFull = codes "the journal is full"
ask_fault_text ask.NoMemory = codes "no memory"
